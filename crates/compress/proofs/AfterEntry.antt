-- What entry leaves: of the floats that are not below 1 only 1 itself, and equal values that are identical.
use mathlib.Core.Path.{◌≡◌, refl, ◌∙◌}
use mathlib.Core.Bool.{Bool, true, false, cond}
use mathlib.Core.List.{List}
use Prim.Native.Nat.{ℕ, ◌<◌}
use lib.Dec.{T}
use lib.Ieee.{Float, nan, inf, fin, binary32, lt, le, fits, of_bits}
use Rattle.floats.specs.Arithmetic.{f0, f1}
use Rattle.floats.specs.Helpers.{lane_max, entry_clamp}
use Rattle.floats.proofs.Tests.{clash}
use Rattle.floats.proofs.Order.{not_of_le}
use Rattle.floats.proofs.Squares.{Plain, le_antisym}
use Rattle.block.specs.Samples.{pixel_at}
use Rattle.block.specs.Block.{entered}
use Rattle.block.proofs.Fill.{get_d_tabulate}

pixel_is : (s : List Float) (i : ℕ) → i < 16 → pixel_at (entered s) i ≡ entry_clamp (pixel_at s i)
unfolding entered
pixel_is s i h = rw get_d_tabulate

pub entered_one : (s : List Float) (i : ℕ) → i < 16 → le f1 (pixel_at (entered s) i) ≡ true → pixel_at (entered s) i ≡ f1
entered_one s i h e = pixel_is s i h ∙ go (lane_max (pixel_at s i) f0) (lt (lane_max (pixel_at s i) f0) f1) refl (rw (pixel_is s i h) at e)
  where
    go : (y : Float) (t : Bool) → lt y f1 ≡ t → le f1 (cond t y f1) ≡ true → cond t y f1 ≡ f1
    go y true e k = clash e (not_of_le f1 y k)
    go y false e k = refl

-- the sample where it is above 0, or 0, or 1
entry_picks : (Q : Float → Type 0) (x : Float) → (lt f0 x ≡ true → Q x) → Q f0 → Q f1 → Q (entry_clamp x)
entry_picks Q x q q0 q1 = outer (lt (lane_max x f0) f1) (inner (lt f0 x) refl)
  where
    inner : (t : Bool) → lt f0 x ≡ t → Q (cond t x f0)
    inner true e = q e
    inner false e = q0

    outer : (t : Bool) → {y : Float} → Q y → Q (cond t y f1)
    outer true k = k
    outer false k = q1

above_plain : (x : Float) → lt f0 x ≡ true → Plain x
unfolding lt of_bits
above_plain nan h = tt
above_plain (inf true) h = clash h refl
above_plain (inf false) h = refl
above_plain (fin true m e) h = clash h refl
above_plain (fin false m e) h = refl

pub entered_identical : (s : List Float) → ((i : ℕ) → i < 16 → T (fits binary32 (pixel_at s i))) → (i j : ℕ) → i < 16 → j < 16
    → le (pixel_at (entered s) i) (pixel_at (entered s) j) ≡ true → le (pixel_at (entered s) j) (pixel_at (entered s) i) ≡ true
    → pixel_at (entered s) i ≡ pixel_at (entered s) j
entered_identical s each i j h k p q = le_antisym (pixel_at (entered s) i) (pixel_at (entered s) j) (held i h) (held j k) (plain i h) (plain j k) p q
  where
    held : (i : ℕ) → i < 16 → T (fits binary32 (pixel_at (entered s) i))
    held i h = rw (pixel_is s i h) (entry_picks (λ x. T (fits binary32 x)) (pixel_at s i) (λ e. each i h) (unfold of_bits fits in tt) (unfold of_bits fits in tt))

    plain : (i : ℕ) → i < 16 → Plain (pixel_at (entered s) i)
    plain i h = rw (pixel_is s i h) (entry_picks Plain (pixel_at s i) (above_plain (pixel_at s i)) (unfold of_bits in refl) (unfold of_bits in refl))
