-- Palette error, `block_closest_error_sq`: each sample's distance from the nearest of the eight values, squared and summed.
-- For four values the Rust starts with `p.min(1.0 - p)`, the distances from 0 and from 1 of a sample in 0..1; `default_distances` in
-- proofs/ shows that these are the two that stand first here.
use Rattle.std.specs.Prelude.{List, ℕ, zero, suc, Float}
use Rattle.floats.specs.Arithmetic.{◌⊖◌, squared}
use Rattle.floats.specs.Helpers.{abs_of, lane_min}
use Rattle.block.specs.Samples.{pixel_at, per_pixel}
use Rattle.block.specs.Orders.{sum_in_order}
use Rattle.palette.specs.declared.Kind.{Kind}
use Rattle.palette.specs.Palettes.{entry, values_of}

abbrev pub distance : List Float → Float → ℕ → Float
distance v p k = abs_of (entry v k ⊖ p)

-- the least distance of p from the first k + 1 values
unfoldable pub least_to : List Float → Float → ℕ → Float
least_to v p zero = distance v p 0
least_to v p (suc k) = lane_min (least_to v p k) (distance v p (suc k))

-- the same by squares, as the code has it: no absolute values, and the square of the least distance is the least square
unfoldable pub nearer_square : Float → Float → Float → Float
nearer_square least v p = lane_min least (squared (v ⊖ p))

unfoldable pub least_square_to : List Float → Float → ℕ → Float
least_square_to v p zero = squared (entry v 0 ⊖ p)
least_square_to v p (suc k) = nearer_square (least_square_to v p k) (entry v (suc k)) p

-- what one sample adds
unfoldable pub miss : List Float → Float → Float
miss v p = squared (least_to v p 7)

unfoldable pub palette_error : Kind → List Float → Float → Float → Float
palette_error kind b c0 c1 = sum_in_order (per_pixel (λ i. miss (values_of kind c0 c1) (pixel_at b i)))
