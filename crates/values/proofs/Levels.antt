-- The floats of the levels, for both formats by one test over all 256 bytes each: they are the fractions rounded once, they grow strictly, and lie in 0..1.
-- A level's byte has that level, and is never -128.
use Rattle.std.proofs.Common.{◌≡◌, ℕ, ◌+◌, ◌<◌, ◌≤◌, Bool, true, false, cond, T, refl, arith}
use lib.Ieee.{Float, of_bits, of_int, mul, div, lt, le}
use lib.Ieee.Bits.{is_true}
use Rattle.floats.specs.Arithmetic.{◌⊗◌, whole, bits, f0, f1}
use Rattle.floats.proofs.Table.{all, at, both, both_left, both_right, same, same→eq, step, grows}
use Rattle.values.specs.Values.{steps, from_norm, level_of, level_byte, level_value, value_of}

-- ---- the code's two products: 3 and 1 / (3 * 255), 31 and 1 / (31 * 254)
abbrev products : Bool → ℕ → Float
products snorm n = whole n ⊗ cond snorm (bits 0x41f8_0000) (bits 0x4040_0000) ⊗ cond snorm (bits 0x3905_2b5f) (bits 0x3aab_5601)

right : Bool → ℕ → Bool
right snorm n = same (products snorm n) (level_value n snorm)

every_right : (snorm : Bool) → T (all (right snorm) 256)
unfolding right level_value mul div of_int of_bits
every_right true = tt
every_right false = tt

pub level_value_products : (snorm : Bool) (n : ℕ) → n < 256 → products snorm n ≡ level_value n snorm
unfolding right
level_value_products snorm n h = same→eq (products snorm n) (level_value n snorm) (at (right snorm) 256 (every_right snorm) n h)

-- ---- their order
every_step : (snorm : Bool) → T (all (step (λ (n : ℕ). level_value n snorm)) 255)
unfolding level_value div of_int lt
every_step true = tt
every_step false = tt

pub level_value_lt : (snorm : Bool) (i j : ℕ) → i < j → j ≤ 255 → lt (level_value i snorm) (level_value j snorm) ≡ true
level_value_lt snorm i j h l = grows (λ (n : ℕ). level_value n snorm) 255 (every_step snorm) i j h l

unit : Bool → ℕ → Bool
unit snorm n = both (le f0 (level_value n snorm)) (le (level_value n snorm) f1)

every_unit : (snorm : Bool) → T (all (unit snorm) (steps snorm + 1))
unfolding unit level_value div of_int le of_bits
every_unit true = tt
every_unit false = tt

pub level_value_unit : (snorm : Bool) (n : ℕ) → n ≤ steps snorm → (le f0 (level_value n snorm) ≡ true) × (le (level_value n snorm) f1 ≡ true)
unfolding unit
level_value_unit snorm n h =
    let t : T (unit snorm n) = at (unit snorm) (steps snorm + 1) (every_unit snorm) n (next n (steps snorm) h) in
    let low = le f0 (level_value n snorm) in
    let high = le (level_value n snorm) f1 in
    (is_true low (both_left low high t), is_true high (both_right low high t))
  where
    next : (a b : ℕ) → a ≤ b → a < b + 1
    next a b h = omega arith

-- ---- the ends: 0 and 255 unsigned; signed -128 and -127 both mean 0, and 127 means 1
pub value_ends : (value_of 0 false ≡ f0) × (value_of 255 false ≡ f1) × (value_of 128 true ≡ f0) × (value_of 129 true ≡ f0) × (value_of 127 true ≡ f1)
unfolding level_value div of_int of_bits
value_ends = (refl, refl, refl, refl, refl)

-- ---- levels and bytes
pub level_back : (snorm : Bool) (n : ℕ) → n ≤ steps snorm → level_of (level_byte n snorm) snorm ≡ n
level_back true n h = omega arith
level_back false n h = refl

pub level_le : (snorm : Bool) (b : ℕ) → b < 256 → level_of b snorm ≤ steps snorm
level_le true b h = omega arith
level_le false b h = omega arith

pub level_byte_lt : (snorm : Bool) (n : ℕ) → n ≤ steps snorm → level_byte n snorm < 256
level_byte_lt true n h = omega arith
level_byte_lt false n h = omega arith

pub from_norm_never_128 : (n : ℕ) → n ≤ 254 → from_norm n ≡ 128 → ⊥
from_norm_never_128 n h e = omega arith
