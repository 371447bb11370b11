-- Each check says what the table's condition says.
use mathlib.Core.Path.{◌≡◌, refl, sym, ap, ◌∙◌}
use mathlib.Core.Bool.{Bool, true, false, not, cond, ◌&&◌, ◌||◌, or_assoc}
use mathlib.Core.Logic.{◌⊎◌, inl, inr}
use mathlib.Core.List.{List, [], ◌∷◌}
use Prim.Native.Nat.{ℕ, zero, suc, ◌+◌, ◌%◌, ◌<◌, ◌*◌, ◌/◌}
use native.Mathlib.Nat.{le_of_suc-le-suc, add_comm, mul_comm, add-mul-div_right, add-mul-mod_self_right, div-eq_of_lt, mod-eq_of_lt, div-add-mod', mod-lt, div-lt_iff_lt-mul}
use native.Mathlib.Omega.{arith}
use lib.Dec.{ltb, eqb}
use lib.ListN.{length}
use lib.Ieee.{Float, is_nan}
use borrow.Author.Tests.{lt-ltb, ltb-true, le-leb, leb-true, eq-eqb, eqb-true, ne_eqb, eqb-false, not-true}
use Rattle.floats.proofs.Tests.{clash}
use Rattle.block.specs.Samples.{pixel_at}
use Rattle.place.specs.Place.{longest_side, bad_side, bad_size, along, no_block, bc4_size, bc5_size, encoded_length}
use Rattle.refusal.specs.declared.Refusal.{Refusal}
use Rattle.refusal.specs.declared.Refusal.TheVariants.{SampleIsNan, TileSampleIsNan}
use Rattle.refusal.specs.declared.Spot.{Spot}
use Rattle.refusal.specs.Refusals.{when, first_nan, nan_check, spot_of, tile_nan_check}
use Rattle.bc4.specs.Word.{word_of}
use Rattle.demands.specs.Exactly.{When, Iff}
use Rattle.demands.specs.Conditions.{BadSide, Missing, BadWord, LowestNan, WhenNanSaid, WhenNan, LowestTileNan, WhenTileNanSaid, WhenTileNan}
use Rattle.demands.proofs.Refusing.{Same}

pub when_same : {refusal : Refusal} {t : Bool} {P : Type 0} → Iff (t ≡ true) P → Same (when refusal t) (When refusal P)
when_same f q = (λ x. (x.0, f.0 x.1), λ x. (x.0, f.1 x.1))

-- ---- tests
pub iff_refl : {A : Type 0} → Iff A A
iff_refl = (λ x. x, λ x. x)

pub or_iff : (a b : Bool) {A B : Type 0} → Iff (a ≡ true) A → Iff (b ≡ true) B → Iff (a || b ≡ true) (A ⊎ B)
or_iff true b f g = (λ e. inl (f.0 refl), λ x. refl)
or_iff false b f g = (λ e. inr (g.0 e), λ x. elim x [ inl y ↦ clash (f.1 y) refl | inr z ↦ g.1 z ])

pub and_iff : (a b : Bool) {A B : Type 0} → Iff (a ≡ true) A → Iff (b ≡ true) B → Iff (a && b ≡ true) (A × B)
and_iff true b f g = (λ e. (f.0 refl, g.0 e), λ x. g.1 x.1)
and_iff false b f g = (λ e. clash e refl, λ x. f.1 x.0)

pub equal_iff : (m n : ℕ) → Iff (eqb m n ≡ true) (m ≡ n)
equal_iff m n = (eqb-true m n, eq-eqb m n)

pub unequal_iff : (m n : ℕ) → Iff (not (eqb m n) ≡ true) (m ≡ n → ⊥)
unequal_iff m n = (λ e. eqb-false m n (not-true (eqb m n) e), λ f. ap not (ne_eqb m n f))

pub below_iff : (m n : ℕ) → Iff (ltb m n ≡ true) (m < n)
below_iff m n = (ltb-true m n, lt-ltb m n)

pub side_iff : (n : ℕ) → Iff (bad_side n ≡ true) (BadSide n)
unfolding bad_side
side_iff n = rw (or_assoc (eqb n 0) (ltb longest_side n)) (or_iff _ _ (equal_iff n 0) (or_iff _ _ (below_iff longest_side n) (unequal_iff (n % 4) 0)))

-- the bytes of a tile in the document's words
pub half : (width height : ℕ) → encoded_length bc4_size width height ≡ width * height / 2
half width height = omega arith

pub output_iff : (room width height : ℕ) → Iff (ltb room (encoded_length bc4_size width height) ≡ true) (room < width * height / 2)
output_iff room width height = rw (half width height) (below_iff room (width * height / 2))

pub encoded_iff : (long width height : ℕ) → Iff (not (eqb long (encoded_length bc4_size width height)) ≡ true) (long ≡ width * height / 2 → ⊥)
encoded_iff long width height = rw (half width height) (unequal_iff long (width * height / 2))

-- and of one of two channels
pub whole : (width height : ℕ) → encoded_length bc5_size width height ≡ width * height
whole width height = omega arith

pub pair_output_iff : (room width height : ℕ) → Iff (ltb room (encoded_length bc5_size width height) ≡ true) (room < width * height)
pair_output_iff room width height = rw (whole width height) (below_iff room (width * height))

pub pair_encoded_iff : (long width height : ℕ) → Iff (not (eqb long (encoded_length bc5_size width height)) ≡ true) (long ≡ width * height → ⊥)
pair_encoded_iff long width height = rw (whole width height) (unequal_iff long (width * height))

pub size_iff : (width height : ℕ) → Iff (bad_size width height ≡ true) (BadSide width ⊎ BadSide height)
unfolding bad_size
size_iff width height = or_iff _ _ (side_iff width) (side_iff height)

pub place_iff : (width height column row : ℕ) → Iff (no_block width height column row ≡ true) (Missing width height column row)
place_iff width height column row = or_iff _ _ (leb-true (along width) column, le-leb (along width) column) (leb-true (along height) row, le-leb (along height) row)

pub word_iff : (flags limit quality last : ℕ) → Iff ((word_of flags limit quality last).malformed ≡ true) (BadWord quality last)
unfolding word_of
word_iff flags limit quality last = or_iff _ _ (below_iff 2 quality) (unequal_iff last 0)

-- ---- the lowest index of a NaN
pub none_before : (s : List Float) (i : ℕ) → i < first_nan s → is_nan (pixel_at s i) ≡ false
unfolding first_nan
none_before [] i l = absurd (omega arith)
none_before (x ∷ s) i l = go (is_nan x) refl i l (none_before s)
  where
    go : (t : Bool) → is_nan x ≡ t → (i : ℕ) → i < cond t 0 (suc (first_nan s)) → ((i : ℕ) → i < first_nan s → is_nan (pixel_at s i) ≡ false) → is_nan (pixel_at (x ∷ s) i) ≡ false
    go true t i l rest = absurd (omega arith)
    go false t zero l rest = t
    go false t (suc i) l rest = rest i (le_of_suc-le-suc l)

nan_there_lem : (s : List Float) → first_nan s < length s → is_nan (pixel_at s (first_nan s)) ≡ true
unfolding first_nan
nan_there_lem [] h = absurd (omega arith)
nan_there_lem (x ∷ s) h = go (is_nan x) refl h (nan_there_lem s)
  where
    go : (t : Bool) → is_nan x ≡ t → cond t 0 (suc (first_nan s)) < suc (length s) → (first_nan s < length s → is_nan (pixel_at s (first_nan s)) ≡ true) → is_nan (pixel_at (x ∷ s) (cond t 0 (suc (first_nan s)))) ≡ true
    go true t h rest = t
    go false t h rest = rest (le_of_suc-le-suc h)

nan_found : (s : List Float) (i : ℕ) → LowestNan s i → first_nan s ≡ i
nan_found s i w =
    let before : first_nan s < i → ⊥ = λ l. let h = w.within in clash (nan_there_lem s (omega arith)) (w.none_lower (first_nan s) l) in
    let after : i < first_nan s → ⊥ = λ l. clash w.there (none_before s i l) in
    omega arith

-- the test of a check, and the lowest NaN
lowest_there : (s : List Float) → ltb (first_nan s) (length s) ≡ true → LowestNan s (first_nan s)
lowest_there s t = let h = ltb-true _ _ t in record { within = h; there = nan_there_lem s h; none_lower = none_before s }

lowest_tested : (s : List Float) (i : ℕ) → LowestNan s i → ltb (first_nan s) (length s) ≡ true
lowest_tested s i w = let found = nan_found s i w in let h = w.within in lt-ltb (first_nan s) (length s) (omega arith)

pub nan_said : (said : ℕ → Refusal) (s : List Float) → Same (when (said (first_nan s)) (nan_check s).applies) (WhenNanSaid said s)
nan_said said s q = (λ x. (first_nan s, x.0, lowest_there s x.1), λ y. (y.1 ∙ ap said (sym (nan_found s y.0 y.2)), lowest_tested s y.0 y.2))

pub nan_same : (s : List Float) → Same (nan_check s) (WhenNan s)
nan_same = nan_said SampleIsNan

-- ---- on a tile of width times height samples: the row and the column that go with an index are one
module _ (s : List Float) (width height : ℕ) (some : 0 < width) (count : length s ≡ width * height) where
  same_spot : (spot : Spot) → LowestTileNan s width height spot → spot_of width (first_nan s) ≡ spot
  same_spot spot w =
      let here : first_nan s ≡ spot.column + spot.row * width = nan_found s spot.index w.lowest ∙ w.place ∙ add_comm (spot.row * width) spot.column in
      let row : first_nan s / width ≡ spot.row = rw (here, add-mul-div_right spot.column spot.row some, div-eq_of_lt w.column_within) (omega arith) in
      let column : first_nan s % width ≡ spot.column = rw (here, add-mul-mod_self_right spot.column spot.row width) (mod-eq_of_lt w.column_within) in
      rw (row, column, nan_found s spot.index w.lowest)

  there : ltb (first_nan s) (length s) ≡ true → LowestTileNan s width height (spot_of width (first_nan s))
  there t = record {
    lowest = lowest_there s t;
    place = sym (div-add-mod' (first_nan s) width);
    column_within = mod-lt (first_nan s) some;
    row_within = (div-lt_iff_lt-mul some).1 (rw (mul_comm height width, ← count) (ltb-true (first_nan s) (length s) t));
  }

  pub tile_nan_said : (said : Spot → Refusal) → Same (when (said (spot_of width (first_nan s))) (tile_nan_check s width).applies) (WhenTileNanSaid said s width height)
  tile_nan_said said q = (
    λ x. (spot_of width (first_nan s), x.0, there x.1),
    λ y. (y.1 ∙ ap said (sym (same_spot y.0 y.2)), lowest_tested s y.0.index y.2.lowest),
  )

  pub tile_nan_same : Same (tile_nan_check s width) (WhenTileNan s width height)
  tile_nan_same = tile_nan_said TileSampleIsNan
