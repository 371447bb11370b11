-- f32 as the definitions write it: the four operations, each rounded once to the nearest value and at a tie to the even one,
-- and the code's literals. A literal is given by its bits, as the compiler reads it; `Literals` of the crate `demands` says which number each is.
use Rattle.std.specs.Prelude.{ℕ, pos, from_bits, Float}
use Rattle.std.specs.Float.{binary32}
use Rattle.std.specs.Float.Ieee.{add, sub, mul, div, of_int}

infixl 75 ◌⊕◌ ◌⊖◌
infixl 80 ◌⊗◌ ◌⊘◌
abbrev pub ◌⊕◌ : Float → Float → Float
◌⊕◌ = add binary32

abbrev pub ◌⊖◌ : Float → Float → Float
◌⊖◌ = sub binary32

abbrev pub ◌⊗◌ : Float → Float → Float
◌⊗◌ = mul binary32

abbrev pub ◌⊘◌ : Float → Float → Float
◌⊘◌ = div binary32

abbrev pub squared : Float → Float
squared x = x ⊗ x

-- a whole number as f32, `n as f32`
abbrev pub whole : ℕ → Float
whole n = of_int binary32 (pos n)

-- a literal by its bits
abbrev pub bits : ℕ → Float
bits n = from_bits binary32 n

abbrev pub f0 : Float
f0 = bits 0

abbrev pub half : Float
half = bits 0x3f00_0000

abbrev pub f1 : Float
f1 = bits 0x3f80_0000

abbrev pub f2 : Float
f2 = bits 0x4000_0000

abbrev pub f254 : Float
f254 = bits 0x437e_0000

abbrev pub f255 : Float
f255 = bits 0x437f_0000

abbrev pub f2^23 : Float
f2^23 = bits 0x4b00_0000
