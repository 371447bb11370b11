-- The value of a palette that stands for a sample: its index, itself, and how far it is. bc4.rs, `closest`, `closest_weights4`, `block_closest`.
use Rattle.std.specs.Prelude.{List, cond, ℕ, zero, suc, get_or, Float}
use Rattle.std.specs.Float.Ieee.{lt, le}
use Rattle.floats.specs.Arithmetic.{◌⊕◌, ◌⊖◌, ◌⊗◌, half, f1}
use Rattle.floats.specs.Helpers.{abs_of, lane_min, trunc_of, byte_up_to7}
use Rattle.block.specs.Samples.{pixel_at, per_pixel}
use Rattle.block.specs.Orders.{sum_of_squares}
use Rattle.index_list.specs.Indexes.{filled_to}
use Rattle.palette.specs.declared.Kind.{Kind}
use Rattle.palette.specs.declared.Kind.TheVariants.{Six, Four}
use Rattle.palette.specs.declared.inter6.Inter6Palette.{Inter6Palette}
use Rattle.palette.specs.declared.Closest.{Closest}
use Rattle.palette.specs.declared.inter4.Nearest.{Nearest}
use Rattle.palette.specs.declared.Indexed.{Indexed}
use Rattle.palette.specs.Palettes.{entry, f7, seventh, index_map, blended, inter6_palette, colors}

-- ---- six values
-- how many sevenths towards c0, before it is cut to a whole number
abbrev pub blend : Inter6Palette → Float → Float
blend p x = x ⊗ p.factor1 ⊕ p.add1

abbrev pub blend7 : Inter6Palette → Float → ℕ
blend7 p x = byte_up_to7 (blend p x)

-- At index 0 the value is 7 sevenths from c1, 7·factor2 + c1, and not c0 itself.
unfoldable pub closest6 : Inter6Palette → Float → Closest
closest6 p x = record {
  index = get_or index_map (blend7 p x) 0;
  value = blended p (blend7 p x);
  error = abs_of (x ⊖ blended p (blend7 p x));
}

-- the weight of c1's end for the least squares. Only 7 caps the blend: below 0 it is left as it is, and the weight is over 1.
unfoldable pub weight : Inter6Palette → Float → Float
weight p x = f1 ⊖ trunc_of (lane_min (blend p x) f7) ⊗ seventh

unfoldable pub weights : Inter6Palette → List Float → List Float
weights p b = per_pixel (λ i. weight p (pixel_at b i))

-- ---- four values: 1 from 1/2 on, else 0; then each colour that is strictly nearer. Outside 0..1 the first error is negative, and stays.
unfoldable pub default_of : Float → Nearest
default_of x = record { index = cond (le half x) 7 6; error = cond (le half x) (f1 ⊖ x) x }

unfoldable pub nearer_of : Nearest → ℕ → Float → Float → Nearest
nearer_of n k color x = cond (lt (abs_of (x ⊖ color)) n.error) (record { index = k; error = abs_of (x ⊖ color) }) n

-- after the first k colours
unfoldable pub nearest_to : List Float → Float → ℕ → Nearest
nearest_to c x zero = default_of x
nearest_to c x (suc k) = nearer_of (nearest_to c x k) k (entry c k) x

unfoldable pub closest4 : List Float → Float → Closest
closest4 c x = record { index = (nearest_to c x 6).index; value = entry c (nearest_to c x 6).index; error = (nearest_to c x 6).error }

-- by the kind of palette, of its two ends
abbrev pub closest_of : Kind → Float → Float → Float → Closest
closest_of Six c0 c1 = closest6 (inter6_palette c0 c1)
closest_of Four c0 c1 = closest4 (colors c0 c1)

-- ---- a whole block, by any rule that answers a sample
abbrev pub block_closest : (Float → Closest) → List Float → Indexed
block_closest rule b = record {
  indexes = record { «data» = filled_to (λ i. (rule (pixel_at b i)).index) 16 };
  error = sum_of_squares (per_pixel (λ i. (rule (pixel_at b i)).error));
}
