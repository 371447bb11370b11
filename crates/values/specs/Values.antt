-- What an endpoint byte stands for, in both formats. Document 01, "Eight bytes" and "Encoder steps".
--   unsigned: a byte is one of the levels 0 to 255, and means level / 255
--   signed:   -127 to 127 are the levels 0 to 254, and mean level / 254; -128 is level 0 too
use Rattle.std.specs.Prelude.{ℕ, ◌+◌, ◌-◌, ◌%◌, Bool, cond, ℤ, pos, negsuc, int_lt, nat_lt, Float}
use Rattle.floats.specs.Arithmetic.{whole, ◌⊘◌}

-- the level that means 1
abbrev pub steps : Bool → ℕ
steps snorm = cond snorm 254 255

-- s8::norm, the level of a signed byte
abbrev pub norm_of : ℕ → ℕ
norm_of b = (b + 128) % 256 - 1

-- s8::from_norm, the signed byte of a level: add 1, then subtract 128 wrapping at a byte
abbrev pub from_norm : ℕ → ℕ
from_norm n = (n + 1 + (256 - 128)) % 256

abbrev pub level_of : ℕ → Bool → ℕ
level_of b snorm = cond snorm (norm_of b) b

abbrev pub level_byte : ℕ → Bool → ℕ
level_byte n snorm = cond snorm (from_norm n) n

-- a level as f32: the fraction rounded once
unfoldable pub level_value : ℕ → Bool → Float
level_value n snorm = whole n ⊘ whole (steps snorm)

-- n8::f32 and s8::uf32
abbrev pub value_of : ℕ → Bool → Float
value_of b snorm = level_value (level_of b snorm) snorm

-- a byte as a signed number, Rust's `b as i8`
abbrev pub signed_of : ℕ → ℤ
signed_of b = cond (nat_lt b 128) (pos b) (negsuc (255 - b))

-- Order is compared on the bytes as written, signed for snorm: whether a is below b.
abbrev pub byte_below : ℕ → ℕ → Bool → Bool
byte_below a b snorm = cond snorm (int_lt (signed_of a) (signed_of b)) (nat_lt a b)
