-- Document 02, 4/12: the sixteen values of the four-value walk are put in order by steps that are the same for every block. The promise of the walk is its definition,
-- which speaks of places and of no steps; this says how the places come about. The steps themselves nobody has to believe: `places` and `place` say what they come to.
use Rattle.std.specs.Prelude.{◌≡◌, ◌⊎◌, true, cond, ◌||◌, List, ℕ, ◌≤◌, ◌<◌, ltb, length, get_or, set, Float}
use Rattle.std.specs.Float.Ieee.{le, eq}
use Rattle.floats.specs.Arithmetic.{f0, f2}
use Rattle.block.specs.Samples.{pixel_at}
use Rattle.compress.specs.Sorted.{not_above, placed}
use Rattle.compress.specs.Network.{Step, smaller_first, stepped, steps, sorted, held_to1, InOrder, first_zero}

abbrev pub step_at : ℕ → Step
step_at n = get_or steps n (record { i = 0; j = 0 })

pub record SameSteps : Type 0 where
  -- The number of steps is a constant, and each is of two places of the sixteen.
  pub number : length steps ≡ 63
  pub two_places_lem : (n : ℕ) → n < 63 → ((step_at n).i < (step_at n).j) × ((step_at n).j < 16)
  -- Whatever the values, a step leaves them as they are or exchanges its two places.
  pub exchange : (s : List Float) (t : Step)
      → (stepped smaller_first s t ≡ s) ⊎ (stepped smaller_first s t ≡ set (set s t.i (pixel_at s t.j)) t.j (pixel_at s t.i))
  -- After them the places are in order, for every block, NaN and both zeros too, and place k is not above x exactly when 2 is not, which stands for a NaN and for what is
  -- above it, or more than k samples are not.
  pub in_order : (b : List Float) (k l : ℕ) → k ≤ l → l < 16 → le (pixel_at (sorted b) k) (pixel_at (sorted b) l) ≡ true
  pub places : (b : List Float) (x : Float) (k : ℕ) → k < 16 → le (pixel_at (sorted b) k) x ≡ le f2 x || ltb k (not_above b x)
  -- What is looked up, held to 1, is the sample of the place: of zeros the first of the block.
  pub place : (b s : List Float) (k : ℕ) → k < 16 → InOrder b s → cond (eq (held_to1 (pixel_at s k)) f0) (first_zero b) (held_to1 (pixel_at s k)) ≡ placed b k
