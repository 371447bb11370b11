-- What Rust's methods of f32 give, and one lane of glam's Vec4, for every input: NaN, the infinities, zeros of both signs, subnormals.
-- Document 01, "Encoder steps".
use Rattle.std.specs.Prelude.{ℕ, suc, ◌/◌, ◌^◌, min, false, cond, ◌||◌, pos, negsuc, Float}
use Rattle.std.specs.Float.{nan, inf, fin, binary32}
use Rattle.std.specs.Float.Ieee.{lt, ne, round, to_unsigned}
use Rattle.floats.specs.Arithmetic.{f0, f1}

-- f32::abs: the sign cleared, of a zero too.
abbrev pub abs_of : Float → Float
abs_of nan = nan
abs_of (inf s) = inf false
abs_of (fin s m e) = fin false m e

-- f32::min and f32::max pass one NaN over. Of two zeros of different sign Rust leaves the answer open; here it is the first.
abbrev pub min_of : Float → Float → Float
min_of a b = cond (lt b a || ne a a) b a

abbrev pub max_of : Float → Float → Float
max_of a b = cond (lt a b || ne a a) b a

-- One lane of Vec4::min: the first if smaller, else the second, so a NaN in either place gives the second. Vec4::max likewise.
abbrev pub lane_min : Float → Float → Float
lane_min a b = cond (lt a b) a b

abbrev pub lane_max : Float → Float → Float
lane_max a b = cond (lt b a) a b

-- f32::clamp(0.0, 1.0): a NaN stays, and so does -0.
abbrev pub clamp_of : Float → Float
clamp_of x = cond (lt x f0) f0 (cond (lt f1 x) f1 x)

-- Entry: a sample not above 0 becomes +0, then one not below 1 becomes 1.
abbrev pub entry_clamp : Float → Float
entry_clamp x = lane_min (lane_max x f0) f1

-- f32::trunc: the places below the point dropped, the sign kept.
abbrev pub trunc_of : Float → Float
trunc_of nan = nan
trunc_of (inf s) = inf s
trunc_of (fin s m (pos k)) = fin s m (pos k)
trunc_of (fin s m (negsuc k)) = round binary32 s (m / 2 ^ suc k) 1

-- Float to byte, Rust's `x as u8`: the fraction dropped, below 0 gives 0, above 255 gives 255, NaN gives 0.
abbrev pub byte_of : Float → ℕ
byte_of x = to_unsigned 8 x

-- `(x as u8).min(7)`
abbrev pub byte_up_to7 : Float → ℕ
byte_up_to7 x = min (byte_of x) 7
