-- Decoded values are in 0..1: none is negative, over 1, infinite or NaN.
use mathlib.Core.Path.{◌≡◌, refl, ap, ◌∙◌, subst}
use mathlib.Core.Bool.{Bool, true, false, cond, not, ◌&&◌, ◌||◌}
use Prim.Native.Nat.{ℕ, zero, suc, ◌+◌, ◌*◌, ◌^◌, ◌≤◌, ◌<◌}
use native.Mathlib.Nat.{le_trans, le_of_eq, le_of_mul-le-mul_right, le_of_mul-le-mul_left, mul_comm, mul_left_comm, mul-le-mul_right, suc-mul}
use native.Mathlib.Omega.{arith}
use lib.Dec.{T, ltb, eqb, lit≤, lit<}
use lib.Ieee.{Float, nan, inf, fin, binary32, up, down, of_bits, add, mul, lt, le, eq}
use lib.Ieee.Positive.{positive}
use lib.Ieee.Scale.{finite}
use borrow.Author.Tests.{le-ltb}
use Rattle.floats.specs.Arithmetic.{◌⊕◌, ◌⊗◌, f0, f1}
use Rattle.floats.specs.Bounds.{Within}
use Rattle.floats.proofs.Tests.{clash}
use Rattle.floats.proofs.Fractions.{le_plain}
use Rattle.floats.proofs.Order.{le_trans as f_trans}
use Rattle.floats.proofs.Monotone.{mul_mono, mul_comm as f_comm, add_mono, add_comm}
use Rattle.floats.proofs.Bounds.{mul_within, unit_within}
use Rattle.floats.proofs.Rounding.{Off}
use Rattle.values.specs.Values.{steps, level_of, value_of}
use Rattle.values.proofs.Levels.{level_value_unit, level_le}
use Rattle.index_list.specs.Layout.{byte_at}
use Rattle.block.specs.Block.{InUnit}
use Rattle.palette.specs.Palettes.{entry, fifth1, fifth2, fifth3, fifth4, colors}
use Rattle.decode.specs.Meaning.{is_six, six_values, table_of, value_at, block_index, decoded}
use Rattle.decode.specs.Exact.{nearness, parts_of}
use Rattle.decode.proofs.Laws.{decoded_at, byte_lt, index_lt}
use Rattle.decode.proofs.Bits.{Units}
use Rattle.decode.proofs.Ends.{steps_pos, steps_few, below_level}
use Rattle.decode.proofs.Bound.{Bounded, six_at}

abbrev pub Unit : Float → Type 0
Unit x = (le f0 x ≡ true) × (le x f1 ≡ true)

zero_unit : Unit f0
unfolding le of_bits
zero_unit = (refl, refl)

one_unit : Unit f1
unfolding le of_bits
one_unit = (refl, refl)

-- ---- six values: a fraction below 1 by more than the bound, of a denominator that is small beside the bound's
units_unit : (x : Float) (r : ℕ) → Units x r → r ≤ 2 ^ 149 → Unit x
unfolding le lt eq of_bits
units_unit nan r u h = absurd u
units_unit (inf s) r u h = absurd u
units_unit (fin true m e) r u h = clash refl u.0
units_unit (fin false m e) r u h =
    let k : m * up e ≤ down e = le_of_mul-le-mul_right (le_trans (le_of_eq u.1) (le_trans (mul-le-mul_right (down e) h) (le_of_eq (mul_comm (2 ^ 149) (down e))))) (lit< tt) in
    (plain (0 * 1 * down e) (m * up e * 1) (omega arith), plain (m * up e * 1) (1 * 1 * down e) (omega arith))
  where
    plain : (a b : ℕ) → a ≤ b → (ltb a b || (eqb a b && true)) ≡ true
    plain a b h = le_plain a b ∙ ap not (le-ltb b a h)

below_one : (u num den r : ℕ) → num < den → den ≤ nearness → Off (den * r) (num * (nearness * u)) (den * u) → den * r ≤ den * (nearness * u)
below_one u num den r h l o =
    let x : suc num * u ≤ den * u = mul-le-mul_right u h in
    let y : suc num * u ≡ num * u + u = suc-mul num u in
    let v : num * (nearness * u) ≡ nearness * (num * u) = mul_left_comm num nearness u in
    let w : den * (nearness * u) ≡ nearness * (den * u) = mul_left_comm den nearness u in
    let z : den * u ≤ nearness * u = mul-le-mul_right u l in
    omega arith

bounded_unit : (x : Float) (num den : ℕ) → 0 < den → num < den → den ≤ nearness → Bounded x num den → Unit x
bounded_unit x num den D h l b = units_unit x b.r b.val (le_of_mul-le-mul_left (below_one (2 ^ 128) num den b.r h l b.off) D)

exact_below : (d m n k : ℕ) → m ≤ d → n < d → k < 6 → parts_of 7 m n (suc (suc k)) < 7 * d
exact_below d m n zero M N h = omega arith
exact_below d m n (suc zero) M N h = omega arith
exact_below d m n (suc (suc zero)) M N h = omega arith
exact_below d m n (suc (suc (suc zero))) M N h = omega arith
exact_below d m n (suc (suc (suc (suc zero)))) M N h = omega arith
exact_below d m n (suc (suc (suc (suc (suc zero))))) M N h = omega arith
exact_below d m n (suc (suc (suc (suc (suc (suc k)))))) M N h = absurd (omega arith)

-- ---- four values: a blend keeps the order, and is 0 of two 0 and 1 of two 1
pub record Weights (p q : Float) : Type 0 where
  pub above_p : T (positive p)
  pub above_q : T (positive q)
  pub within_p : Within 1 p
  pub within_q : Within 1 q
  pub zeros : f0 ⊗ p ⊕ f0 ⊗ q ≡ f0
  pub ones : f1 ⊗ p ⊕ f1 ⊗ q ≡ f1

weights41 : Weights fifth4 fifth1
unfolding of_bits mul add
weights41 = record { above_p = tt; above_q = tt; within_p = lit≤ tt; within_q = lit≤ tt; zeros = refl; ones = refl }

weights32 : Weights fifth3 fifth2
unfolding of_bits mul add
weights32 = record { above_p = tt; above_q = tt; within_p = lit≤ tt; within_q = lit≤ tt; zeros = refl; ones = refl }

weights23 : Weights fifth2 fifth3
unfolding of_bits mul add
weights23 = record { above_p = tt; above_q = tt; within_p = lit≤ tt; within_q = lit≤ tt; zeros = refl; ones = refl }

weights14 : Weights fifth1 fifth4
unfolding of_bits mul add
weights14 = record { above_p = tt; above_q = tt; within_p = lit≤ tt; within_q = lit≤ tt; zeros = refl; ones = refl }

within_finite : (B : ℕ) (x : Float) → Within B x → T (finite x)
within_finite B nan h = absurd h
within_finite B (inf s) h = absurd h
within_finite B (fin s m e) h = tt

scaled_mono : (p x y : Float) → T (positive p) → le x y ≡ true → le (x ⊗ p) (y ⊗ p) ≡ true
scaled_mono p x y P h = rw (f_comm binary32 x p, f_comm binary32 y p) (mul_mono binary32 p x y P h)

module _ (p q : Float) (W : Weights p q) where
  product_finite : (x w : Float) → Unit x → Within 1 w → T (finite (x ⊗ w))
  product_finite x w u h = within_finite 1 (x ⊗ w) (mul_within binary32 1 1 x w (lit≤ tt) (unit_within x u.0 u.1) h)

  blend_mono : (x y x' y' : Float) → Unit y → Unit x' → le x x' ≡ true → le y y' ≡ true → le (x ⊗ p ⊕ y ⊗ q) (x' ⊗ p ⊕ y' ⊗ q) ≡ true
  blend_mono x y x' y' Y X' h k =
      f_trans (x ⊗ p ⊕ y ⊗ q) (x' ⊗ p ⊕ y ⊗ q) (x' ⊗ p ⊕ y' ⊗ q)
      (add_mono binary32 (y ⊗ q) (x ⊗ p) (x' ⊗ p) (product_finite y q Y W.within_q) (scaled_mono p x x' W.above_p h))
      (rw (add_comm binary32 (x' ⊗ p) (y ⊗ q), add_comm binary32 (x' ⊗ p) (y' ⊗ q))
      (add_mono binary32 (x' ⊗ p) (y ⊗ q) (y' ⊗ q) (product_finite x' p X' W.within_p) (scaled_mono q y y' W.above_q k)))

  blend_unit : (x y : Float) → Unit x → Unit y → Unit (x ⊗ p ⊕ y ⊗ q)
  blend_unit x y X Y = (
    subst (λ (z : Float). le z (x ⊗ p ⊕ y ⊗ q) ≡ true) W.zeros (blend_mono f0 f0 x y zero_unit X X.0 Y.0),
    subst (λ (z : Float). le (x ⊗ p ⊕ y ⊗ q) z ≡ true) W.ones (blend_mono x y f1 f1 Y one_unit X.1 Y.1),
  )

four_unit : (x y : Float) → Unit x → Unit y → (k : ℕ) → k < 8 → Unit (entry (colors x y) k)
unfolding colors
four_unit x y X Y zero h = X
four_unit x y X Y (suc zero) h = Y
four_unit x y X Y (suc (suc zero)) h = blend_unit fifth4 fifth1 weights41 x y X Y
four_unit x y X Y (suc (suc (suc zero))) h = blend_unit fifth3 fifth2 weights32 x y X Y
four_unit x y X Y (suc (suc (suc (suc zero)))) h = blend_unit fifth2 fifth3 weights23 x y X Y
four_unit x y X Y (suc (suc (suc (suc (suc zero))))) h = blend_unit fifth1 fifth4 weights14 x y X Y
four_unit x y X Y (suc (suc (suc (suc (suc (suc zero)))))) h = zero_unit
four_unit x y X Y (suc (suc (suc (suc (suc (suc (suc zero))))))) h = one_unit
four_unit x y X Y (suc (suc (suc (suc (suc (suc (suc (suc k)))))))) h = absurd (omega arith)

-- ---- every value that two bytes can stand for
end_unit : (snorm : Bool) (b : ℕ) → b < 256 → Unit (value_of b snorm)
end_unit snorm b h = level_value_unit snorm (level_of b snorm) (level_le snorm b h)

sevenths_few : (d : ℕ) → d ≤ 255 → 7 * d ≤ nearness
sevenths_few d h = omega arith

sevenths_pos : (d : ℕ) → 0 < d → 0 < 7 * d
sevenths_pos d h = omega arith

module _ (snorm : Bool) (c0 c1 : ℕ) (H0 : c0 < 256) (H1 : c1 < 256) where
  six_unit : is_six c0 c1 snorm ≡ true → (k : ℕ) → k < 8 → Unit (entry (six_values (value_of c0 snorm) (value_of c1 snorm)) k)
  unfolding six_values
  six_unit e zero h = end_unit snorm c0 H0
  six_unit e (suc zero) h = end_unit snorm c1 H1
  six_unit e (suc (suc k)) h =
      bounded_unit (entry (six_values (value_of c0 snorm) (value_of c1 snorm)) (suc (suc k))) (parts_of 7 (level_of c0 snorm) (level_of c1 snorm) (suc (suc k))) (7 * steps snorm)
      (sevenths_pos (steps snorm) (steps_pos snorm))
      (exact_below (steps snorm) (level_of c0 snorm) (level_of c1 snorm) k (level_le snorm c0 H0) (below_level snorm c1 c0 H1 H0 e).1 (omega arith))
      (sevenths_few (steps snorm) (steps_few snorm))
      (six_at snorm c0 c1 (suc (suc k)) H0 H1 h e)

  pub value_unit : (k : ℕ) → k < 8 → Unit (value_at snorm c0 c1 k)
  unfolding table_of
  value_unit k K = go (is_six c0 c1 snorm) refl
    where
      go : (six : Bool) → is_six c0 c1 snorm ≡ six
          → Unit (entry (cond six (six_values (value_of c0 snorm) (value_of c1 snorm)) (colors (value_of c0 snorm) (value_of c1 snorm))) k)
      go true e = six_unit e k K
      go false e = four_unit (value_of c0 snorm) (value_of c1 snorm) (end_unit snorm c0 H0) (end_unit snorm c1 H1) k K

-- A decoded block is in 0..1, as a block is after entry.
pub decoded_unit : (snorm : Bool) (n : ℕ) → InUnit (decoded n snorm)
decoded_unit snorm n =
    let at : (i : ℕ) → Unit (value_at snorm (byte_at n 0) (byte_at n 1) (block_index n i)) =
    λ i. value_unit snorm (byte_at n 0) (byte_at n 1) (byte_lt n 0) (byte_lt n 1) (block_index n i) (index_lt n i) in
    record { from_0_lem = λ i h. rw (decoded_at snorm n i h) (at i).0; to_1 = λ i h. rw (decoded_at snorm n i h) (at i).1 }
