-- The palette error of ends and samples in 0..1 is at most 256, so it is finite and no NaN; that of anything is never negative.
use mathlib.Core.Path.{◌≡◌}
use mathlib.Core.Bool.{Bool, false}
use mathlib.Core.List.{List}
use Prim.Native.Nat.{ℕ, zero, suc, ◌<◌}
use native.Mathlib.Omega.{arith}
use lib.Dec.{lit≤}
use lib.Ieee.{Float, binary32, lt, of_bits}
use Rattle.floats.specs.Arithmetic.{◌⊕◌, ◌⊖◌, ◌⊗◌, squared, bits, f0, f1}
use Rattle.floats.specs.Bounds.{Within}
use Rattle.floats.proofs.Bounds.{add_within, sub_within, mul_within, cond_within, within_up, abs_within, unit_within}
use Rattle.floats.proofs.Squares.{Plain, squared_plain, add_plain, plain_not_below}
use Rattle.values.specs.Values.{level_of, value_of}
use Rattle.values.proofs.Levels.{level_value_unit, level_le}
use Rattle.block.specs.Samples.{pixel_at, tabulate, per_pixel}
use Rattle.block.specs.Orders.{sum_in_order}
use Rattle.block.specs.Block.{InUnit}
use Rattle.palette.specs.declared.Kind.{Kind}
use Rattle.palette.specs.declared.Kind.TheVariants.{Six, Four}
use Rattle.palette.specs.Palettes.{entry, seventh, fifth1, fifth2, fifth3, fifth4, towards, colors, values6, values4, values_of}
use Rattle.palette.specs.PaletteError.{distance, least_to, miss, palette_error}

-- ---- the literals are within 1
parts : Within 1 seventh × Within 1 (bits 0x3e92_4925) × Within 1 (bits 0x3edb_6db7) × Within 1 (bits 0x3f12_4925) × Within 1 (bits 0x3f36_db6e) × Within 1 (bits 0x3f5b_6db7)
    × Within 1 f1 × Within 1 f0 × Within 1 fifth1 × Within 1 fifth2 × Within 1 fifth3 × Within 1 fifth4
unfolding of_bits
parts = (lit≤ tt, lit≤ tt, lit≤ tt, lit≤ tt, lit≤ tt, lit≤ tt, lit≤ tt, lit≤ tt, lit≤ tt, lit≤ tt, lit≤ tt, lit≤ tt)

-- ---- each of the eight values is within 3
abbrev Eight : List Float → Type 0
Eight v = (k : ℕ) → k < 8 → Within 3 (entry v k)

module _ (c0 c1 : Float) (h0 : Within 1 c0) (h1 : Within 1 c1) where
  mix : (x y : Float) → Within 1 x → Within 1 y → Within 3 (c0 ⊗ x ⊕ c1 ⊗ y)
  mix x y p q =
      within_up 2 3 (c0 ⊗ x ⊕ c1 ⊗ y) (lit≤ tt)
      (add_within binary32 1 1 (c0 ⊗ x) (c1 ⊗ y) (lit≤ tt) (mul_within binary32 1 1 c0 x (lit≤ tt) h0 p) (mul_within binary32 1 1 c1 y (lit≤ tt) h1 q))

  along : (x : Float) → Within 1 x → Within 3 (towards c0 c1 x)
  along x p = add_within binary32 1 2 c0 ((c1 ⊖ c0) ⊗ x) (lit≤ tt) h0 (mul_within binary32 2 1 (c1 ⊖ c0) x (lit≤ tt) (sub_within binary32 1 1 c1 c0 (lit≤ tt) h1 h0) p)

  values6_near : Eight (values6 c0 c1)
  unfolding values6
  values6_near zero h = within_up 1 3 c0 (lit≤ tt) h0
  values6_near (suc zero) h = along _ parts.0
  values6_near (suc (suc zero)) h = along _ parts.1
  values6_near (suc (suc (suc zero))) h = along _ parts.2
  values6_near (suc (suc (suc (suc zero)))) h = along _ parts.3
  values6_near (suc (suc (suc (suc (suc zero))))) h = along _ parts.4
  values6_near (suc (suc (suc (suc (suc (suc zero)))))) h = along _ parts.5
  values6_near (suc (suc (suc (suc (suc (suc (suc zero))))))) h = along _ parts.6
  values6_near (suc (suc (suc (suc (suc (suc (suc (suc k)))))))) h = absurd (omega arith)

  values4_near : Eight (values4 c0 c1)
  unfolding values4 colors
  values4_near zero h = within_up 1 3 f0 (lit≤ tt) parts.7
  values4_near (suc zero) h = within_up 1 3 f1 (lit≤ tt) parts.6
  values4_near (suc (suc zero)) h = within_up 1 3 c0 (lit≤ tt) h0
  values4_near (suc (suc (suc zero))) h = within_up 1 3 c1 (lit≤ tt) h1
  values4_near (suc (suc (suc (suc zero)))) h = mix _ _ parts.11 parts.8
  values4_near (suc (suc (suc (suc (suc zero))))) h = mix _ _ parts.10 parts.9
  values4_near (suc (suc (suc (suc (suc (suc zero)))))) h = mix _ _ parts.9 parts.10
  values4_near (suc (suc (suc (suc (suc (suc (suc zero))))))) h = mix _ _ parts.8 parts.11
  values4_near (suc (suc (suc (suc (suc (suc (suc (suc k)))))))) h = absurd (omega arith)

values_near : (kind : Kind) (c0 c1 : Float) → Within 1 c0 → Within 1 c1 → Eight (values_of kind c0 c1)
unfolding values_of
values_near Six c0 c1 h0 h1 = values6_near c0 c1 h0 h1
values_near Four c0 c1 h0 h1 = values4_near c0 c1 h0 h1

-- ---- so a distance is within 4, what one sample adds within 16, and the sum of sixteen within 256
least_within : (v : List Float) (p : Float) → Eight v → Within 1 p → (k : ℕ) → k < 8 → Within 4 (least_to v p k)
unfolding least_to
least_within v p e P zero h = abs_within 4 (entry v 0 ⊖ p) (sub_within binary32 3 1 (entry v 0) p (lit≤ tt) (e 0 (omega arith)) P)
least_within v p e P (suc k) h =
    cond_within 4 (lt (least_to v p k) (distance v p (suc k))) (least_to v p k) (distance v p (suc k)) (least_within v p e P k (omega arith))
    (abs_within 4 (entry v (suc k) ⊖ p) (sub_within binary32 3 1 (entry v (suc k)) p (lit≤ tt) (e (suc k) h) P))

miss_within : (v : List Float) (p : Float) → Eight v → Within 1 p → Within 16 (miss v p)
unfolding miss
miss_within v p e P = let d = least_within v p e P 7 (omega arith) in mul_within binary32 4 4 (least_to v p 7) (least_to v p 7) (lit≤ tt) d d

lane_within_lem : (a b c d : Float) → Within 16 a → Within 16 b → Within 16 c → Within 16 d → Within 64 (a ⊕ b ⊕ c ⊕ d)
lane_within_lem a b c d A B C D =
    add_within binary32 48 16 (a ⊕ b ⊕ c) d (lit≤ tt) (add_within binary32 32 16 (a ⊕ b) c (lit≤ tt) (add_within binary32 16 16 a b (lit≤ tt) A B) C) D

four_within : (a b c d : Float) → Within 64 a → Within 64 b → Within 64 c → Within 64 d → Within 256 (a ⊕ b ⊕ c ⊕ d)
four_within a b c d A B C D =
    add_within binary32 192 64 (a ⊕ b ⊕ c) d (lit≤ tt) (add_within binary32 128 64 (a ⊕ b) c (lit≤ tt) (add_within binary32 64 64 a b (lit≤ tt) A B) C) D

-- what a sum of four and a sum of four such sums keep, a sum in order keeps
module _ (P Q R : Float → Type 0) (lane : (a b c d : Float) → P a → P b → P c → P d → Q (a ⊕ b ⊕ c ⊕ d)) (all : (a b c d : Float) → Q a → Q b → Q c → Q d → R (a ⊕ b ⊕ c ⊕ d)) where
  sum_keeps : (f : ℕ → Float) → ((i : ℕ) → i < 16 → P (f i)) → R (sum_in_order (per_pixel f))
  unfolding tabulate
  sum_keeps f each =
      all (f 0 ⊕ f 4 ⊕ f 8 ⊕ f 12) (f 1 ⊕ f 5 ⊕ f 9 ⊕ f 13) (f 2 ⊕ f 6 ⊕ f 10 ⊕ f 14) (f 3 ⊕ f 7 ⊕ f 11 ⊕ f 15)
      (lane (f 0) (f 4) (f 8) (f 12) (each 0 (omega arith)) (each 4 (omega arith)) (each 8 (omega arith)) (each 12 (omega arith)))
      (lane (f 1) (f 5) (f 9) (f 13) (each 1 (omega arith)) (each 5 (omega arith)) (each 9 (omega arith)) (each 13 (omega arith)))
      (lane (f 2) (f 6) (f 10) (f 14) (each 2 (omega arith)) (each 6 (omega arith)) (each 10 (omega arith)) (each 14 (omega arith)))
      (lane (f 3) (f 7) (f 11) (f 15) (each 3 (omega arith)) (each 7 (omega arith)) (each 11 (omega arith)) (each 15 (omega arith)))

pub error_within : (kind : Kind) (b : List Float) (c0 c1 : Float) → Within 1 c0 → Within 1 c1 → InUnit b → Within 256 (palette_error kind b c0 c1)
unfolding palette_error
error_within kind b c0 c1 h0 h1 u =
    sum_keeps (Within 16) (Within 64) (Within 256) lane_within_lem four_within (λ i. miss (values_of kind c0 c1) (pixel_at b i))
    (λ i h. miss_within (values_of kind c0 c1) (pixel_at b i) (values_near kind c0 c1 h0 h1) (unit_within (pixel_at b i) (u.from_0_lem i h) (u.to_1 i h)))

-- the float of an endpoint byte, in either format
pub value_within : (snorm : Bool) (byte : ℕ) → byte < 256 → Within 1 (value_of byte snorm)
value_within snorm byte h = let u = level_value_unit snorm (level_of byte snorm) (level_le snorm byte h) in unit_within (value_of byte snorm) u.0 u.1

-- The palette error of byte endpoints, at samples as entry leaves them.
pub byte_error_within : (kind : Kind) (snorm : Bool) (b : List Float) (c0 c1 : ℕ) → c0 < 256 → c1 < 256 → InUnit b → Within 256 (palette_error kind b (value_of c0 snorm) (value_of c1 snorm))
byte_error_within kind snorm b c0 c1 h0 h1 u = error_within kind b (value_of c0 snorm) (value_of c1 snorm) (value_within snorm c0 h0) (value_within snorm c1 h1) u

-- ---- never negative
plain_sum : (a b c d : Float) → Plain a → Plain b → Plain c → Plain d → Plain (a ⊕ b ⊕ c ⊕ d)
plain_sum a b c d A B C D = add_plain (a ⊕ b ⊕ c) d (add_plain (a ⊕ b) c (add_plain a b A B) C) D

pub error_plain : (kind : Kind) (b : List Float) (c0 c1 : Float) → Plain (palette_error kind b c0 c1)
unfolding palette_error miss
error_plain kind b c0 c1 =
    sum_keeps Plain Plain Plain plain_sum plain_sum (λ i. squared (least_to (values_of kind c0 c1) (pixel_at b i) 7)) (λ i h. squared_plain (least_to (values_of kind c0 c1) (pixel_at b i) 7))

pub error_not_negative : (kind : Kind) (b : List Float) (c0 c1 : Float) → lt (palette_error kind b c0 c1) f0 ≡ false
error_not_negative kind b c0 c1 = plain_not_below (palette_error kind b c0 c1) (error_plain kind b c0 c1)
