-- The eight values that the error looks at: each by its index, and the Rust's start for four values.
use mathlib.Core.Path.{◌≡◌, refl, ap₂}
use mathlib.Core.Bool.{true}
use Prim.Native.Nat.{ℕ, zero, suc, ◌<◌}
use native.Mathlib.Omega.{arith}
use lib.Dec.{T}
use lib.Ieee.{Float, binary32, le, fits, of_bits, of_int, div}
use Rattle.floats.specs.Arithmetic.{◌⊖◌, ◌⊘◌, whole, f1}
use Rattle.floats.specs.Helpers.{lane_min}
use Rattle.floats.proofs.Squares.{Plain}
use Rattle.floats.proofs.Distances.{distance_0, distance_1}
use Rattle.palette.specs.declared.Kind.{Kind}
use Rattle.palette.specs.declared.Kind.TheVariants.{Six, Four}
use Rattle.palette.specs.Palettes.{entry, towards, colors, values6, values4, values_of}
use Rattle.palette.specs.PaletteError.{least_to}

-- ---- by index
-- where the error function looks at the value of index k
abbrev pub place : Kind → ℕ → ℕ
place Six zero = 0
place Six (suc zero) = 7
place Six (suc (suc k)) = suc k
place Four zero = 2
place Four (suc zero) = 3
place Four (suc (suc zero)) = 4
place Four (suc (suc (suc zero))) = 5
place Four (suc (suc (suc (suc zero)))) = 6
place Four (suc (suc (suc (suc (suc zero))))) = 7
place Four (suc (suc (suc (suc (suc (suc zero)))))) = 0
place Four (suc (suc (suc (suc (suc (suc (suc k))))))) = 1

-- four values: the palette's own entry
pub value4_at : (c0 c1 : Float) (k : ℕ) → k < 8 → entry (values_of Four c0 c1) (place Four k) ≡ entry (colors c0 c1) k
unfolding values_of values4 colors
value4_at c0 c1 zero h = refl
value4_at c0 c1 (suc zero) h = refl
value4_at c0 c1 (suc (suc zero)) h = refl
value4_at c0 c1 (suc (suc (suc zero))) h = refl
value4_at c0 c1 (suc (suc (suc (suc zero)))) h = refl
value4_at c0 c1 (suc (suc (suc (suc (suc zero))))) h = refl
value4_at c0 c1 (suc (suc (suc (suc (suc (suc zero)))))) h = refl
value4_at c0 c1 (suc (suc (suc (suc (suc (suc (suc zero))))))) h = refl
value4_at c0 c1 (suc (suc (suc (suc (suc (suc (suc (suc k)))))))) h = absurd (omega arith)

-- six values: c0, c1 by way of the whole step, and k - 1 sevenths from c0 towards c1
pub value6_at_0 : (c0 c1 : Float) → entry (values_of Six c0 c1) (place Six 0) ≡ c0
unfolding values_of values6
value6_at_0 c0 c1 = refl

pub value6_at_1 : (c0 c1 : Float) → entry (values_of Six c0 c1) (place Six 1) ≡ towards c0 c1 f1
unfolding values_of values6
value6_at_1 c0 c1 = refl

pub value6_at : (c0 c1 : Float) (k : ℕ) → k < 6 → entry (values_of Six c0 c1) (place Six (suc (suc k))) ≡ towards c0 c1 (whole (suc k) ⊘ whole 7)
unfolding values_of values6 of_bits of_int div
value6_at c0 c1 zero h = refl
value6_at c0 c1 (suc zero) h = refl
value6_at c0 c1 (suc (suc zero)) h = refl
value6_at c0 c1 (suc (suc (suc zero))) h = refl
value6_at c0 c1 (suc (suc (suc (suc zero)))) h = refl
value6_at c0 c1 (suc (suc (suc (suc (suc zero))))) h = refl
value6_at c0 c1 (suc (suc (suc (suc (suc (suc k)))))) h = absurd (omega arith)

-- ---- For four values the Rust starts with `p.min(1.0 - p)`: of a sample in 0..1 these are the distances from 0 and from 1.
pub default_distances : (c0 c1 p : Float) → T (fits binary32 p) → Plain p → le p f1 ≡ true → least_to (values_of Four c0 c1) p 1 ≡ lane_min p (f1 ⊖ p)
unfolding least_to values_of values4
default_distances c0 c1 p f s h = ap₂ lane_min (distance_0 p f s h) (distance_1 p s h)
