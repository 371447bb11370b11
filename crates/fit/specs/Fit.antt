-- bc4.rs, `compress_inter6_impl`: a pair of ends made again, by least squares, of the weights that its own palette gives the samples.
use Rattle.std.specs.Prelude.{List, Float}
use Rattle.floats.specs.Helpers.{clamp_of}
use Rattle.floats.specs.declared.Pair.{Pair}
use Rattle.palette.specs.Palettes.{inter6_palette}
use Rattle.palette.specs.Closest.{weights}
use Rattle.bcn_util.specs.LeastSquares.{least_squares}

-- One fit. It hands back the end of weight 1 first, so that after the first of two fits min and max have changed places.
unfoldable pub fitted : List Float → Pair → Pair
fitted b p = let q = least_squares b (weights (inter6_palette p.0 p.1) b) in record { 0 = clamp_of q.0; 1 = clamp_of q.1 }
