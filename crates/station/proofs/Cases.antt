-- The document's four cases and its two refusals, at a place that has an entry and eight bytes; and what it says that bytes are alike.
use Rattle.std.specs.Cmp.Lexicographic.{same_text, other_text}
use Rattle.std.specs.Prelude.{nat_eq}
use lib.Pointwise.{pointwise}
use Rattle.std.specs.declared.result.Result.TheVariants.{Ok, Err}
use mathlib.Core.Path.{◌≡◌, refl, sym, ◌∙◌}
use mathlib.Core.Bool.{Bool, true, false, ◌&&◌}
use mathlib.Core.List.{List}
use mathlib.Core.Logic.{dite}
use Prim.Native.Nat.{ℕ, zero, suc, ◌<◌}
use native.Mathlib.Decide.{dec_lt}
use native.Mathlib.Omega.{arith}
use lib.ListN.{length, get_or}
use lib.Seq.{ext_get_or}
use borrow.Author.Tests.{eq-eqb, eqb-true, ne_eqb, lt-ltb, le-ltb}
use Rattle.place.specs.Place.{bc4_size}
use Rattle.refusal.specs.declared.Refusal.TheVariants.{EditionReused, EditionOpposite}
use Rattle.refusal.specs.Refusals.{Answer, first_of, answered}
use Rattle.station.specs.declared.Received.{Received}
use Rattle.station.specs.declared.Received.TheVariants.{Taken, Repeated, Replaced, Old}
use Rattle.station.specs.Editions.{halfway, edition_in, ahead, alike}
use Rattle.station.specs.Receiving.{edition_checks, becomes}

abbrev pub at_place : ℕ → ℕ → List ℕ → List ℕ → Answer Received
at_place entry edition bytes block = answered Err (Ok (becomes entry edition)) (first_of (edition_checks entry edition bytes block))

module _ (entry edition : ℕ) (bytes block : List ℕ) where
  pub empty_takes : entry ≡ 0 → at_place entry edition bytes block ≡ Ok Taken
  unfolding first_of
  empty_takes e = rw (eq-eqb entry 0 e)

  module _ (full : entry ≡ 0 → ⊥) where
    pub equal_repeats : ahead edition (edition_in entry) ≡ 0 → alike bytes block bc4_size ≡ true → at_place entry edition bytes block ≡ Ok Repeated
    unfolding first_of
    equal_repeats e same = rw (ne_eqb entry 0 full, e, same)

    pub other_reused : ahead edition (edition_in entry) ≡ 0 → alike bytes block bc4_size ≡ false → at_place entry edition bytes block ≡ Err EditionReused
    unfolding first_of
    other_reused e same = rw (ne_eqb entry 0 full, e, same)

    pub newer_replaces : 0 < ahead edition (edition_in entry) → ahead edition (edition_in entry) < halfway → at_place entry edition bytes block ≡ Ok Replaced
    unfolding first_of
    newer_replaces some less =
        let no : ahead edition (edition_in entry) ≡ 0 → ⊥ = omega arith in
        let less_than : ahead edition (edition_in entry) ≡ halfway → ⊥ = omega arith in
        rw (ne_eqb entry 0 full, ne_eqb _ 0 no, ne_eqb _ halfway less_than, lt-ltb _ halfway less)

    pub half_opposite : ahead edition (edition_in entry) ≡ halfway → at_place entry edition bytes block ≡ Err EditionOpposite
    unfolding first_of
    half_opposite e = rw (ne_eqb entry 0 full, e)

    pub older_stays : halfway < ahead edition (edition_in entry) → at_place entry edition bytes block ≡ Ok Old
    unfolding first_of
    older_stays more =
        let no : ahead edition (edition_in entry) ≡ 0 → ⊥ = omega arith in
        let more_than : ahead edition (edition_in entry) ≡ halfway → ⊥ = omega arith in
        rw (ne_eqb entry 0 full, ne_eqb _ 0 no, ne_eqb _ halfway more_than, le-ltb (ahead edition (edition_in entry)) halfway (omega arith))

-- ---- the same bytes
pub alike_same : (bytes : List ℕ) (n : ℕ) → alike bytes bytes n ≡ true
unfolding alike
alike_same bytes zero = refl
alike_same bytes (suc n) = rw (alike_same bytes n, eq-eqb (get_or bytes n 0) (get_or bytes n 0) refl)

both_true : (a b : Bool) → a && b ≡ true → (a ≡ true) × (b ≡ true)
both_true true b e = (refl, e)
both_true false b e = absurd (let z : ◌≡◌ {A = ℕ} 0 1 = cc in omega arith)

alike_each : (xs ys : List ℕ) (n : ℕ) → alike xs ys n ≡ true → (i : ℕ) → i < n → get_or xs i 0 ≡ get_or ys i 0
unfolding alike
alike_each xs ys zero e i h = absurd (omega arith)
alike_each xs ys (suc n) e i h =
    let both = both_true (alike xs ys n) _ e in
    dite (dec_lt i n) (λ l. alike_each xs ys n both.0 i l) (λ l. let last : i ≡ n = omega arith in rw last (eqb-true _ _ both.1))

pub alike_equal : (xs ys : List ℕ) → length xs ≡ bc4_size → length ys ≡ bc4_size → alike xs ys bc4_size ≡ true → xs ≡ ys
alike_equal xs ys p q e = ext_get_or 0 xs ys (p ∙ sym q) (λ i h. alike_each xs ys bc4_size e i (omega arith))

-- what a test of two messages' bytes has told
pub alike_told : (xs ys : List ℕ) → length xs ≡ bc4_size → length ys ≡ bc4_size → (t : Bool) → t ≡ pointwise nat_eq xs ys → alike xs ys bc4_size ≡ t
alike_told xs ys p q true e = let same = same_text xs ys e in rw same (alike_same ys bc4_size)
alike_told xs ys p q false e = go (alike xs ys bc4_size) refl
  where
    go : (t : Bool) → alike xs ys bc4_size ≡ t → alike xs ys bc4_size ≡ false
    go true same = absurd (other_text xs ys e (alike_equal xs ys p q same))
    go false other = other
