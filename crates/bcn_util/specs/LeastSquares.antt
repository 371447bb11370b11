-- Least squares: the two ends that fit sixteen samples best, given the weight of the first end in each. bcn_util.rs,
-- `least_squares_weights_f32_vec4`. All sums go down the lanes and then (x + y) + (z + w).
use Rattle.std.specs.Prelude.{List, cond, Option, Some, None, Float}
use Rattle.std.specs.Float.Ieee.{neg, lt}
use Rattle.floats.specs.Arithmetic.{◌⊕◌, ◌⊖◌, ◌⊗◌, ◌⊘◌, bits, f0, f1}
use Rattle.floats.specs.Helpers.{abs_of}
use Rattle.floats.specs.declared.Pair.{Pair}
use Rattle.block.specs.Samples.{pixel_at, per_pixel}
use Rattle.block.specs.Orders.{sum_in_pairs}
use Rattle.block.specs.Block.{sixteenth}
use Rattle.bcn_util.specs.declared.least_squares.WeightMatrix.{WeightMatrix}

unfoldable pub dot_in_pairs : List Float → List Float → Float
dot_in_pairs u v = sum_in_pairs (per_pixel (λ i. pixel_at u i ⊗ pixel_at v i))

-- 1 - w, lane by lane
unfoldable pub complement : List Float → List Float
complement w = per_pixel (λ i. f1 ⊖ pixel_at w i)

-- f32::EPSILON, 2 ^ -23
abbrev pub f32_epsilon : Float
f32_epsilon = bits 0x3400_0000

-- D = (a b, b c) turned round, unless its determinant is too small: then all weights are the same
unfoldable pub from_d : Float → Float → Float → Option WeightMatrix
from_d a b c =
    let det = a ⊗ c ⊖ b ⊗ b in
    let rep = f1 ⊘ det in
    let e00 = c ⊗ rep in
    let e01 = neg b ⊗ rep in
    let e11 = a ⊗ rep in
    cond (lt (abs_of det) f32_epsilon) None (Some (record { e01 = e01; e11 = e11; e00_01 = e00 ⊖ e01; e10_11 = e01 ⊖ e11 }))

-- the matrix that makes both ends the mean, whatever the weights
abbrev pub mean_matrix : WeightMatrix
mean_matrix = record { e01 = sixteenth; e11 = sixteenth; e00_01 = f0; e10_11 = f0 }

abbrev pub or_mean : Option WeightMatrix → WeightMatrix
or_mean (Some m) = m
or_mean None = mean_matrix

unfoldable pub matrix_of : List Float → WeightMatrix
matrix_of w = or_mean (from_d (dot_in_pairs w w) (dot_in_pairs w (complement w)) (dot_in_pairs (complement w) (complement w)))

-- e + d · w, lane by lane
unfoldable pub line : Float → Float → List Float → List Float
line e d w = per_pixel (λ i. e ⊕ d ⊗ pixel_at w i)

-- The end of weight 1 comes first: a caller that takes them for (min, max) has them exchanged after one fit and back after two.
unfoldable pub least_squares : List Float → List Float → Pair
least_squares colors w =
    let m = matrix_of w in
    record { 0 = dot_in_pairs colors (line m.e01 m.e00_01 w); 1 = dot_in_pairs colors (line m.e11 m.e10_11 w) }
