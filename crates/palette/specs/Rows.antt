-- What the code works out row by row, or by another cut, for speed. Laws in proofs/ say that it comes to the same as Closest and PaletteError; nothing
-- here has to be believed.
use Rattle.std.specs.Prelude.{List, ℕ, ◌+◌, ◌*◌, get_or, Float}
use Rattle.floats.specs.Arithmetic.{◌⊕◌, ◌⊖◌, ◌⊗◌, squared, whole, f1}
use Rattle.floats.specs.Helpers.{byte_up_to7}
use Rattle.block.specs.Samples.{pixel_at}
use Rattle.palette.specs.declared.Kind.{Kind}
use Rattle.palette.specs.declared.inter6.Inter6Palette.{Inter6Palette}
use Rattle.palette.specs.Palettes.{seventh, index_map, blended, values_of}
use Rattle.palette.specs.PaletteError.{miss}
use Rattle.palette.specs.Closest.{blend7}

-- ---- of `closest` of six values: the index, and the error with its sign
abbrev pub index6 : Inter6Palette → Float → ℕ
index6 p x = get_or index_map (blend7 p x) 0

abbrev pub off6 : Inter6Palette → Float → Float
off6 p x = x ⊖ blended p (blend7 p x)

-- ---- of a row's four samples: their indexes, three bits each, and the sum of their errors' squares (`rows_code`, `rows_sum`)
unfoldable pub row_code : Inter6Palette → Float → Float → Float → Float → ℕ
row_code p x y z w = index6 p x + 8 * index6 p y + 64 * index6 p z + 512 * index6 p w

unfoldable pub row_sum : Inter6Palette → Float → Float → Float → Float → Float
row_sum p x y z w = squared (off6 p x) ⊕ squared (off6 p y) ⊕ squared (off6 p z) ⊕ squared (off6 p w)

abbrev pub of_row : {A : Type 0} → (Float → Float → Float → Float → A) → List Float → ℕ → A
of_row f b i = f (pixel_at b (4 * i)) (pixel_at b (4 * i + 1)) (pixel_at b (4 * i + 2)) (pixel_at b (4 * i + 3))

-- ---- the weight where the blend is above -1, by the cut of `closest` (`weight_above`)
abbrev pub cut_weight : Float → Float
cut_weight blend = f1 ⊖ whole (byte_up_to7 blend) ⊗ seventh

-- ---- the first row's part of a palette error: no palette error is below this (`row_floor_lem`)
unfoldable pub first_row_sum : List Float → List Float → Float
first_row_sum v b = miss v (pixel_at b 0) ⊕ miss v (pixel_at b 1) ⊕ miss v (pixel_at b 2) ⊕ miss v (pixel_at b 3)

abbrev pub first_row_error : Kind → List Float → Float → Float → Float
first_row_error kind b c0 c1 = first_row_sum (values_of kind c0 c1) b
