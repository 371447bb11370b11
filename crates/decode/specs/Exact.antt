-- The exact fraction that a decoded float stands for, and how near to it the float has to be. Document 01, "Eight bytes": the bound of
-- demand 2, 1/2,097,152, over whole numbers, the float taken apart by its bits.
use Rattle.std.specs.Prelude.{Bool, cond, ℕ, zero, suc, ◌+◌, ◌-◌, ◌*◌, ◌/◌, ◌%◌, ◌^◌, ◌≤◌, ◌<◌, eqb, Float}
use Rattle.std.specs.Float.{binary32}
use Rattle.std.specs.Float.Ieee.{to_bits}
use Rattle.values.specs.Values.{steps, level_of}
use Rattle.decode.specs.Meaning.{is_six}

-- ---- the fraction. A byte stands for level / steps.
-- Index k in w-ths of a step, m and n being the levels of c0 and c1: c0 and c1 themselves, then (w + 1 - k)·m + (k - 1)·n.
abbrev pub parts_of : ℕ → ℕ → ℕ → ℕ → ℕ
parts_of w m n k = cond (eqb k 0) (w * m) (cond (eqb k 1) (w * n) ((w + 1 - k) * m + (k - 1) * n))

-- four values: fifths, then 0 and 1, where `one` is the level that means 1
abbrev pub exact_four : ℕ → ℕ → ℕ → ℕ → ℕ
exact_four one m n k = cond (eqb k 6) 0 (cond (eqb k 7) (5 * one) (parts_of 5 m n k))

-- six values are sevenths
unfoldable pub exact_num : Bool → ℕ → ℕ → ℕ → ℕ
exact_num snorm c0 c1 k =
    cond (is_six c0 c1 snorm) (parts_of 7 (level_of c0 snorm) (level_of c1 snorm) k) (exact_four (steps snorm) (level_of c0 snorm) (level_of c1 snorm) k)

unfoldable pub exact_den : Bool → ℕ → ℕ → ℕ
exact_den snorm c0 c1 = cond (is_six c0 c1 snorm) 7 5 * steps snorm

-- ---- the float, by its 32 bits: bit 31 is the sign, bits 23 to 30 are the exponent x, bits 0 to 22 the digits t.
-- x = 0 means t / 2^149; x from 1 to 254 means (2^23 + t)·2^(x - 1) / 2^149; 255 is for the infinities and NaN.
-- So without its sign a float is a whole number of 2^-149, and this is the number:
abbrev pub scaled : ℕ → ℕ → ℕ
scaled zero t = t
scaled (suc x) t = (2 ^ 23 + t) * 2 ^ x

abbrev pub magnitude : ℕ → ℕ
magnitude b = scaled (b % 2 ^ 31 / 2 ^ 23) (b % 2 ^ 23)

-- ---- x is not negative, and |magnitude / 2^149 - num / den| <= 1 / 2,097,152, both sides times 2,097,152 · 2^149 · den.
-- An infinity or a NaN, taken for a number of exponent 255, is 2^128 or more, which is near no fraction between 0 and 1.
abbrev pub nearness : ℕ
nearness = 2_097_152

pub record Close (x : Float) (num den : ℕ) : Type 0 where
  pub sign : to_bits binary32 x < 2 ^ 31
  pub above : nearness * (magnitude (to_bits binary32 x) * den) ≤ nearness * (num * 2 ^ 149) + 2 ^ 149 * den
  pub under : nearness * (num * 2 ^ 149) ≤ nearness * (magnitude (to_bits binary32 x) * den) + 2 ^ 149 * den
