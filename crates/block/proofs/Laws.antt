-- What `Block` gives: samples in 0..1, whatever they were; with a threshold, (1, 0) where only 0 and 1 are present.
use mathlib.Core.Path.{◌≡◌, refl}
use mathlib.Core.Logic.{◌⊎◌, inl, inr}
use mathlib.Core.List.{List}
use mathlib.Core.Bool.{Bool, true, false, cond}
use Prim.Native.Nat.{ℕ, ◌+◌, ◌<◌}
use native.Mathlib.Omega.{arith}
use lib.Ieee.{Float, lt, le}
use Rattle.floats.specs.Arithmetic.{◌⊖◌, f0, f1}
use Rattle.floats.specs.Helpers.{lane_min, lane_max}
use Rattle.floats.proofs.Ranges.{entry_from_0, entry_to_1}
use Rattle.block.specs.Samples.{pixel_at}
use Rattle.block.specs.Orders.{down_from, element}
use Rattle.block.specs.Block.{entered, InUnit, min_max_with_threshold}
use Rattle.block.proofs.Fill.{get_d_tabulate}

-- Samples are in 0..1 after entry, whatever they were.
pub entered_unit : (s : List Float) → InUnit (entered s)
unfolding entered
entered_unit s = record {
  from_0_lem = λ i h. rw get_d_tabulate (entry_from_0 (pixel_at s i));
  to_1 = λ i h. rw get_d_tabulate (entry_to_1 (pixel_at s i));
}

-- ---- with a threshold above 0, and 1 less it below 1: where only 0 and 1 are present, the scan passes over all
same_cond : {A : Type 0} (t : Bool) (x : A) → cond t x x ≡ x
same_cond true x = refl
same_cond false x = refl

-- a scan that starts at a, of samples that all count as a
stays : (op : Float → Float → Float) (a : Float) (g : ℕ → Float) → op a a ≡ a → ((i : ℕ) → i < 16 → g i ≡ a) → element op (down_from op a g) ≡ a
unfolding element
stays op a g e each = simp (lane 0 (omega arith), lane 1 (omega arith), lane 2 (omega arith), lane 3 (omega arith), e)
  where
    lane : (j : ℕ) → j < 4 → down_from op a g j ≡ a
    lane j h = simp (each j (omega arith), each (j + 4) (omega arith), each (j + 8) (omega arith), each (j + 12) (omega arith), e)

pub threshold_edges : (b : List Float) (t : Float) → le t f0 ≡ false → le f1 (f1 ⊖ t) ≡ false → ((i : ℕ) → i < 16 → (pixel_at b i ≡ f0) ⊎ (pixel_at b i ≡ f1))
    → min_max_with_threshold b t ≡ record { 0 = f1; 1 = f0 }
unfolding min_max_with_threshold
threshold_edges b t h k each =
    rw (
      stays lane_min f1 _ (same_cond (lt f1 f1) f1) (λ i l. low (pixel_at b i) (each i l)),
      stays lane_max f0 _ (same_cond (lt f0 f0) f0) (λ i l. high (pixel_at b i) (each i l)),
    )
  where
    low : (x : Float) → (x ≡ f0) ⊎ (x ≡ f1) → cond (le t x) x f1 ≡ f1
    low x (inl e) = rw (e, h)
    low x (inr e) = rw e (same_cond (le t f1) f1)

    high : (x : Float) → (x ≡ f0) ⊎ (x ≡ f1) → cond (le x (f1 ⊖ t)) x f0 ≡ f0
    high x (inl e) = rw e (same_cond (le f0 (f1 ⊖ t)) f0)
    high x (inr e) = rw (e, k)
