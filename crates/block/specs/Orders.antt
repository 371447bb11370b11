-- The orders in which the Rust goes through a block. It keeps the samples as four Vec4, a row each: pixel i is lane i % 4 of row i / 4.
--
--            x   y   z   w
--       b0   0   1   2   3      A minimum, a maximum and a sum go down each lane first,
--       b1   4   5   6   7      and then across the lanes x, y, z, w.
--       b2   8   9  10  11
--       b3  12  13  14  15
--
-- Document 01, "Encoder steps", has the three orders of a sum; one order everywhere would choose the other mode at near-ties.
use Rattle.std.specs.Prelude.{List, ℕ, ◌+◌, ◌*◌, Float}
use Rattle.floats.specs.Arithmetic.{◌⊕◌, squared, f0}
use Rattle.block.specs.Samples.{pixel_at}

-- down lane j of what g gives for each pixel
abbrev pub down_lane : {A : Type 0} → (A → A → A) → (ℕ → A) → ℕ → A
down_lane op g j = op (op (op (g j) (g (j + 4))) (g (j + 8))) (g (j + 12))

-- the same from a
abbrev pub down_from : {A : Type 0} → (A → A → A) → A → (ℕ → A) → ℕ → A
down_from op a g j = op (op (op (op a (g j)) (g (j + 4))) (g (j + 8))) (g (j + 12))

-- both: what stands in the first row, and then the three rows below it
abbrev pub below_first : {A : Type 0} → (A → A → A) → A → (ℕ → A) → ℕ → A
below_first op first g j = op (op (op first (g (j + 4))) (g (j + 8))) (g (j + 12))

-- Vec4::min_element and max_element: x against (y against (z against w))
unfoldable pub element : (Float → Float → Float) → (ℕ → Float) → Float
element op lane = op (lane 0) (op (lane 1) (op (lane 2) (lane 3)))

abbrev pub lane_sum : List Float → ℕ → Float
lane_sum e j = down_lane ◌⊕◌ (pixel_at e) j

-- palette error: the lanes' sums as ((x + y) + z) + w
abbrev pub sum_in_order : List Float → Float
sum_in_order e = lane_sum e 0 ⊕ lane_sum e 1 ⊕ lane_sum e 2 ⊕ lane_sum e 3

-- mean and least squares: (x + y) + (z + w)
abbrev pub sum_in_pairs : List Float → Float
sum_in_pairs e = (lane_sum e 0 ⊕ lane_sum e 1) ⊕ (lane_sum e 2 ⊕ lane_sum e 3)

-- block totals: each row's dot product with itself, ((x² + y²) + z²) + w², and these from 0 down the rows
abbrev pub row_dot : List Float → ℕ → Float
row_dot e i = squared (pixel_at e (4 * i)) ⊕ squared (pixel_at e (4 * i + 1)) ⊕ squared (pixel_at e (4 * i + 2)) ⊕ squared (pixel_at e (4 * i + 3))

abbrev pub sum_of_squares : List Float → Float
sum_of_squares e = f0 ⊕ row_dot e 0 ⊕ row_dot e 1 ⊕ row_dot e 2 ⊕ row_dot e 3
