-- The middle of two values in 0..1 is in 0..1, and so is that of a block as it has entered.
use mathlib.Core.Path.{◌≡◌, refl}
use mathlib.Core.Bool.{true}
use mathlib.Core.List.{List}
use lib.Dec.{T}
use lib.Ieee.{Float, nan, inf, fin, binary32, le, of_bits, add, mul}
use lib.Ieee.Scale.{finite}
use Rattle.floats.specs.Bounds.{Within}
use Rattle.floats.specs.Arithmetic.{◌⊕◌, ◌⊗◌, f0, f1, half}
use Rattle.floats.proofs.Order.{le_trans}
use Rattle.floats.proofs.Monotone.{mul_mono, add_mono, add_comm}
use Rattle.floats.proofs.Bounds.{unit_within}
use Rattle.block.specs.Block.{smallest, largest, min_max, InUnit}
use Rattle.block.proofs.Extremes.{extremes_unit}
use Rattle.encode.specs.Encoder.{middle}

finite_within : (x : Float) → Within 1 x → T (finite x)
finite_within nan w = absurd w
finite_within (inf s) w = absurd w
finite_within (fin s m e) w = tt

add_both : (a b c d : Float) → T (finite b) → T (finite c) → le a c ≡ true → le b d ≡ true → le (a ⊕ b) (c ⊕ d) ≡ true
add_both a b c d B C h k = le_trans (a ⊕ b) (c ⊕ b) (c ⊕ d) (add_mono binary32 b a c B h) (rw (add_comm binary32 c b, add_comm binary32 c d) (add_mono binary32 c b d C k))

halved : (x y : Float) → le x y ≡ true → le (half ⊗ x) (half ⊗ y) ≡ true
halved x y h = mul_mono binary32 half x y (unfold of_bits in tt) h

ends : (half ⊗ (f0 ⊕ f0) ≡ f0) × (half ⊗ (f1 ⊕ f1) ≡ f1)
unfolding of_bits mul add
ends = (refl, refl)

module _ (a b : Float) (a0 : le f0 a ≡ true) (a1 : le a f1 ≡ true) (b0 : le f0 b ≡ true) (b1 : le b f1 ≡ true) where
  pub middle_from_0 : le f0 (half ⊗ (a ⊕ b)) ≡ true
  middle_from_0 = rw (← ends.0) (halved (f0 ⊕ f0) (a ⊕ b) (add_both f0 f0 a b (unfold of_bits in tt) (finite_within a (unit_within a a0 a1)) a0 b0))

  pub middle_to_1 : le (half ⊗ (a ⊕ b)) f1 ≡ true
  middle_to_1 = rw (← ends.1) (halved (a ⊕ b) (f1 ⊕ f1) (add_both a b f1 f1 (finite_within b (unit_within b b0 b1)) (unfold of_bits in tt) a1 b1))

pub block_middle_to_1 : (b : List Float) → InUnit b → le (middle (min_max b)) f1 ≡ true
unfolding min_max
block_middle_to_1 b u =
    let e = extremes_unit b u in
    middle_to_1 (smallest b) (largest b) e.0 e.1 e.2 e.3
