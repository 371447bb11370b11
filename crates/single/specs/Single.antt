-- bc4.rs, `single_color`: a block whose samples are all nearly v.
use Rattle.std.specs.Prelude.{Bool, true, cond, ℕ, Float}
use Rattle.std.specs.Float.Ieee.{lt}
use Rattle.floats.specs.Arithmetic.{◌⊖◌, bits}
use Rattle.floats.specs.Helpers.{abs_of}
use Rattle.index_list.specs.Indexes.{filled_to}
use Rattle.index_list.specs.Layout.{packed}
use Rattle.end_points.specs.declared.EndPoints.{EndPoints}
use Rattle.end_points.specs.EndPoints.{closest}
use Rattle.block.specs.Samples.{per_pixel}
use Rattle.palette.specs.declared.Kind.{Kind}
use Rattle.palette.specs.declared.Kind.TheVariants.{Six, Four}
use Rattle.coding.specs.declared.Coded.{Coded}
use Rattle.coding.specs.Coding.{smaller, rule_of, ends_in, coded}

-- BC4_EPSILON, 1 / 65536
abbrev pub bc4_epsilon : Float
bc4_epsilon = bits 0x3780_0000

-- the same index everywhere
abbrev pub uniform : EndPoints → ℕ → ℕ
uniform e k = packed e.c0 e.c1 (filled_to (λ i. k) 16)

-- the palette around v in a mode: the index of its nearest value, and how far that is
unfoldable pub around : Kind → Float → Bool → Coded
around kind v snorm =
    let e = ends_in kind snorm (record { 0 = v; 1 = v }) in
    let k = rule_of kind e v in
    record { bytes = uniform e k.index; error = k.error }

-- the nearer of the two, the six-value one if neither is
abbrev pub nearer_palette : Float → Bool → ℕ
nearer_palette v snorm = (smaller (around Six v snorm) (around Four v snorm)).bytes

-- One level if that is near enough; else a dithered block, or the nearest value of a palette.
unfoldable pub single_color : Float → Bool → Bool → ℕ
single_color v snorm dither =
    let e = closest v snorm in
    cond (lt (abs_of (e.c0_f ⊖ v)) bc4_epsilon) (uniform e 0)
    (cond dither (coded Six (per_pixel (λ i. v)) snorm true (record { 0 = v; 1 = v })).bytes (nearer_palette v snorm))
