-- Four values and a sample outside 0..1, as dithering makes it: whatever the ends, the default on its side is answered, and the error is negative.
use mathlib.Core.Path.{◌≡◌, refl, ◌∙◌}
use mathlib.Core.Logic.{⊎_elim}
use mathlib.Core.Bool.{true, false}
use mathlib.Core.List.{List}
use Prim.Native.Nat.{ℕ, zero, suc}
use lib.Ieee.{Float, binary32, lt, le, neg, sum, round, add, sub, of_bits}
use Rattle.floats.specs.Arithmetic.{◌⊖◌, f0, half, f1}
use Rattle.floats.specs.Helpers.{abs_of}
use Rattle.floats.proofs.Tests.{clash, either}
use Rattle.floats.proofs.Order.{lt_trans, lt_le_trans, le_of_lt, not_of_le}
use Rattle.floats.proofs.Monotone.{sub_anti}
use Rattle.floats.proofs.Squares.{abs_plain, plain_not_below}
use Rattle.palette.specs.Palettes.{entry, colors}
use Rattle.palette.specs.Closest.{default_of, nearer_of, nearest_to, closest4}

-- ---- no colour is strictly nearer than 0 or less
not_nearer : (d x : Float) → le x f0 ≡ true → lt (abs_of d) x ≡ false
not_nearer d x h = ⊎_elim (λ t. clash (lt_le_trans (abs_of d) x f0 t h) (plain_not_below (abs_of d) (abs_plain d))) (λ t. t) (either (lt (abs_of d) x))

nearest_default : (c : List Float) (x : Float) → le (default_of x).error f0 ≡ true → (k : ℕ) → nearest_to c x k ≡ default_of x
unfolding nearest_to nearer_of
nearest_default c x h zero = refl
nearest_default c x h (suc k) = rw (nearest_default c x h k, not_nearer (x ⊖ entry c k) (default_of x).error h) refl

pub closest4_default : (c : List Float) (x : Float) → le (default_of x).error f0 ≡ true
    → closest4 c x ≡ record { index = (default_of x).index; value = entry c (default_of x).index; error = (default_of x).error }
unfolding closest4
closest4_default c x h = rw (nearest_default c x h 6)

-- ---- which default
below_half : (x : Float) → lt x f0 ≡ true → le half x ≡ false
below_half x h = ⊎_elim (λ t. clash h (not_of_le f0 x (le_of_lt f0 x (lt_le_trans f0 half x (unfold lt of_bits in refl) t)))) (λ t. t) (either (le half x))

above_half : (x : Float) → lt f1 x ≡ true → le half x ≡ true
above_half x h = le_of_lt half x (lt_trans half f1 x (unfold lt of_bits in refl) h)

-- 1 less what is not below 1 is not above 0
past_1 : (x : Float) → lt f1 x ≡ true → le (f1 ⊖ x) f0 ≡ true
past_1 x h = rw same at (sub_anti binary32 f1 f1 x (unfold of_bits in tt) (le_of_lt f1 x h))
  where
    same : f1 ⊖ f1 ≡ f0
    same = unfold sub add neg sum round of_bits in refl

pub closest4_below : (c0 c1 x : Float) → lt x f0 ≡ true → closest4 (colors c0 c1) x ≡ record { index = 6; value = f0; error = x }
unfolding default_of colors
closest4_below c0 c1 x h = closest4_default (colors c0 c1) x (rw (below_half x h) (le_of_lt x f0 h)) ∙ rw (below_half x h) refl

pub closest4_above : (c0 c1 x : Float) → lt f1 x ≡ true → closest4 (colors c0 c1) x ≡ record { index = 7; value = f1; error = f1 ⊖ x }
unfolding default_of colors
closest4_above c0 c1 x h = closest4_default (colors c0 c1) x (rw (above_half x h) (past_1 x h)) ∙ rw (above_half x h) refl
