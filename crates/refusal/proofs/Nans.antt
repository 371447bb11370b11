-- The first NaN of a list.
use mathlib.Core.Path.{◌≡◌, refl, sym, ap, ◌∙◌}
use mathlib.Core.Bool.{Bool, true, false, cond, ◌||◌}
use Rattle.std.specs.Prelude.{if◌then◌else◌}
use Rattle.std.specs.declared.option.Option.TheVariants.{Some, None}
use Rattle.std.specs.declared.result.Result.TheVariants.{Ok, Err}
use Rattle.refusal.specs.declared.Refusal.{Refusal}
use mathlib.Core.List.{List}
use Prim.Native.Nat.{ℕ, suc, ◌+◌, ◌≤◌, ◌<◌}
use native.Mathlib.Numerals.{add-one}
use native.Mathlib.Omega.{arith}
use lib.Dec.{ltb}
use lib.ListN.{length, drop, get_or, drop_of_length-le}
use lib.Seq.{drop-cons}
use lib.Ieee.{Float, nan, ne}
use borrow.Author.Tests.{lt-ltb, le-ltb}
use Rattle.floats.proofs.Order.{ne_self}
use Rattle.refusal.specs.Refusals.{Checked, first_nan}

-- ---- one step of the search: i samples are passed, and none is NaN
abbrev pub Passed-to : List Float → ℕ → Type 0
Passed-to s i = first_nan s ≡ i + first_nan (drop i s)

pub nan_here : (s : List Float) (i : ℕ) → i < length s → Passed-to s i → ne (get_or s i nan) (get_or s i nan) ≡ true → i ≡ first_nan s
unfolding first_nan
nan_here s i h e t =
    let z : first_nan (drop i s) ≡ 0 = rw (drop-cons s i nan h, sym (ne_self (get_or s i nan)) ∙ t) refl in
    omega arith

pub nan_later : (s : List Float) (i : ℕ) → i < length s → Passed-to s i → ne (get_or s i nan) (get_or s i nan) ≡ false → Passed-to s (i + 1)
unfolding first_nan
nan_later s i h e t =
    let z : first_nan (drop i s) ≡ suc (first_nan (drop (suc i) s)) = rw (drop-cons s i nan h, sym (ne_self (get_or s i nan)) ∙ t) refl in
    rw (add-one i) (omega arith)

pub nan_none : (s : List Float) (i : ℕ) → length s ≤ i → Passed-to s i → i ≡ first_nan s
unfolding first_nan
nan_none s i h e = let z : first_nan (drop i s) ≡ 0 = rw (drop_of_length-le s h) refl in omega arith

-- The first one's place, where there is one, makes the refusal of the check.
module _ {X : Type 0} (refusal : X → Refusal) (x : X) where
  pub some_told : (t : Bool) {y : X} → Some y ≡ (if t then Some x else None) → ◌≡◌ {A = Checked} (Err (refusal y)) (cond {A = Checked} t (Err (refusal x)) (Ok tt))
  some_told true e = let same : _ ≡ _ = cc in ap (λ (z : X). Err (refusal z)) same
  some_told false e = absurd (let z : ◌≡◌ {A = ℕ} 0 1 = cc in omega arith)

  pub none_told : (t : Bool) → None ≡ (if t then Some x else None) → ◌≡◌ {A = Checked} (Ok tt) (cond {A = Checked} t (Err (refusal x)) (Ok tt))
  none_told true e = absurd (let z : ◌≡◌ {A = ℕ} 0 1 = cc in omega arith)
  none_told false e = refl

-- ---- the same without a way out: a flag says whether one was found among the first i
abbrev pub Looked : List Float → Bool → ℕ → Type 0
Looked s true i = first_nan s < i
Looked s false i = Passed-to s i

looked_at_lem : (s : List Float) (i : ℕ) (t : Bool) → i < length s → Passed-to s i → ne (get_or s i nan) (get_or s i nan) ≡ t → Looked s t (i + 1)
looked_at_lem s i true h e t = let z = nan_here s i h e t in omega arith
looked_at_lem s i false h e t = nan_later s i h e t

pub looked_later : (s : List Float) (found : Bool) (i : ℕ) → i < length s → Looked s found i → Looked s (found || ne (get_or s i nan) (get_or s i nan)) (i + 1)
looked_later s true i h l = omega arith
looked_later s false i h l = looked_at_lem s i _ h l refl

pub looked_all : (s : List Float) (found : Bool) (i : ℕ) → length s ≤ i → i ≤ length s → Looked s found i → found ≡ ltb (first_nan s) (length s)
looked_all s true i h k l = sym (lt-ltb (first_nan s) (length s) (omega arith))
looked_all s false i h k l = let z = nan_none s i h l in sym (le-ltb (first_nan s) (length s) (omega arith))
