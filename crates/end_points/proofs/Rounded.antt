-- The three roundings of a float to a level: they keep the order, stay in the format, and the two that go outwards leave room between them.
use mathlib.Core.Path.{◌≡◌, refl}
use mathlib.Core.Logic.{⊎_elim}
use Prim.Native.Nat.{ℕ, zero, suc, ◌+◌, ◌≤◌, ◌<◌}
use native.Mathlib.Omega.{arith}
use mathlib.Core.Bool.{Bool, true, false, not}
use lib.Dec.{T, leb, ltb, leb→le, ltb→lt}
use lib.Ieee.{Float, nan, binary32, of_bits, of_int, mul, div, add, sub, le, is_nan, to_unsigned}
use lib.Ieee.Bits.{is_false}
use lib.Ieee.Positive.{positive}
use Rattle.floats.specs.Arithmetic.{◌⊖◌, ◌⊗◌, ◌⊘◌, whole, half, f0, f1}
use Rattle.floats.specs.Helpers.{clamp_of}
use Rattle.floats.proofs.Tests.{either}
use Rattle.floats.proofs.Order.{le_total, le_of_lt, is_nan_lem}
use Rattle.floats.proofs.Casts.{byte_of_mono, byte_of_le}
use Rattle.floats.proofs.Monotone.{mul_mono, add_mono, sub_anti}
use Rattle.floats.proofs.Ranges.{clamp_nan, clamp_from_0, clamp_to_1}
use Rattle.floats.proofs.Table.{all, at, both, both_left, both_right}
use Rattle.values.specs.Values.{steps}
use Rattle.end_points.specs.Levels.{scale, nearest_level, rounded_down, down_from_top, in_format}

-- ---- order
scale_positive : (snorm : Bool) → T (positive (scale snorm))
unfolding of_bits
scale_positive true = tt
scale_positive false = tt

scaled : (snorm : Bool) (x y : Float) → le x y ≡ true → le (scale snorm ⊗ x) (scale snorm ⊗ y) ≡ true
scaled snorm x y h = mul_mono binary32 (scale snorm) x y (scale_positive snorm) h

pub nearest_mono : (snorm : Bool) (x y : Float) → le x y ≡ true → nearest_level x snorm ≤ nearest_level y snorm
nearest_mono snorm x y h = byte_of_mono _ _ (add_mono binary32 half (scale snorm ⊗ x) (scale snorm ⊗ y) (unfold of_bits in tt) (scaled snorm x y h))

pub down_mono : (snorm : Bool) (x y : Float) → le x y ≡ true → rounded_down x snorm ≤ rounded_down y snorm
down_mono snorm x y h = byte_of_mono _ _ (scaled snorm x y h)

pub top_anti : (snorm : Bool) (x y : Float) → le x y ≡ true → down_from_top snorm y ≤ down_from_top snorm x
top_anti snorm x y h = byte_of_mono _ _ (scaled snorm (f1 ⊖ y) (f1 ⊖ x) (sub_anti binary32 f1 x y (unfold of_bits in tt) h))

-- ---- range: what a value in 0..1, or a NaN, rounds to
at_1 : (snorm : Bool) → (nearest_level f1 snorm ≡ steps snorm) × (rounded_down f1 snorm ≡ steps snorm)
unfolding of_bits mul add to_unsigned
at_1 true = (refl, refl)
at_1 false = (refl, refl)

at_0 : (snorm : Bool) → down_from_top snorm f0 ≡ steps snorm
unfolding of_bits mul sub to_unsigned
at_0 true = refl
at_0 false = refl

pub at_nan : (snorm : Bool) → (nearest_level nan snorm ≡ 0) × (rounded_down nan snorm ≡ 0) × (down_from_top snorm nan ≡ 0)
unfolding of_bits mul add sub to_unsigned
at_nan true = (refl, refl, refl)
at_nan false = (refl, refl, refl)

pub nearest-le : (snorm : Bool) (x : Float) → le x f1 ≡ true → nearest_level x snorm ≤ steps snorm
nearest-le snorm x h = let m : nearest_level x snorm ≤ nearest_level f1 snorm = nearest_mono snorm x f1 h in omega (arith, (at_1 snorm).0)

-- the three levels of x are in the format
pub record Fitting (snorm : Bool) (x : Float) : Type 0 where
  pub near : nearest_level x snorm ≤ steps snorm
  pub down : rounded_down x snorm ≤ steps snorm
  pub top : down_from_top snorm x ≤ steps snorm

pub fitting : (snorm : Bool) (x : Float) → Fitting snorm (in_format x snorm)
fitting false x = record { near = byte_of_le _; down = byte_of_le _; top = byte_of_le _ }
fitting true x = ⊎_elim no_number number (either (is_nan x))
  where
    no_number : is_nan x ≡ true → Fitting true (clamp_of x)
    no_number e = rw (is_nan_lem x e, clamp_nan) (record { near = omega (arith, (at_nan true).0); down = omega (arith, (at_nan true).1); top = omega (arith, (at_nan true).2) })

    number : is_nan x ≡ false → Fitting true (clamp_of x)
    number e =
        let d : rounded_down (clamp_of x) true ≤ rounded_down f1 true = down_mono true (clamp_of x) f1 (clamp_to_1 x e) in
        let t : down_from_top true (clamp_of x) ≤ down_from_top true f0 = top_anti true f0 (clamp_of x) (clamp_from_0 x e) in
        record { near = nearest-le true (clamp_of x) (clamp_to_1 x e); down = omega (arith, (at_1 true).1); top = omega (arith, at_0 true) }

-- ---- room: a float between k and k + 1 steps splits the range there. The test at these floats is computed, and the order carries it to every x.
middle : Bool → ℕ → Float
middle snorm k = whole (k + k + 1) ⊘ whole (steps snorm + steps snorm)

parted : Bool → ℕ → Bool
parted snorm k =
    both (not (is_nan (middle snorm k))) (both (ltb (rounded_down (middle snorm k) snorm) (suc k)) (leb (down_from_top snorm (middle snorm k) + suc k) (steps snorm)))

every_parted : (snorm : Bool) → T (all (parted snorm) (steps snorm))
unfolding parted middle mul div sub of_int of_bits is_nan to_unsigned
every_parted true = tt
every_parted false = tt

pub room : (snorm : Bool) (x : Float) → is_nan x ≡ false → rounded_down x snorm ≤ steps snorm → down_from_top snorm x ≤ steps snorm → rounded_down x snorm + down_from_top snorm x ≤ steps snorm
room snorm x real down top = go (rounded_down x snorm) refl down
  where
    at_middle : (k : ℕ) → rounded_down x snorm ≡ suc k → T (parted snorm k) → suc k + down_from_top snorm x ≤ steps snorm
    at_middle k e t =
        let real' = not (is_nan (middle snorm k)) in
        let low = ltb (rounded_down (middle snorm k) snorm) (suc k) in
        let high = leb (down_from_top snorm (middle snorm k) + suc k) (steps snorm) in
        let u = both_right real' (both low high) (unfold parted in t) in
        let l : rounded_down (middle snorm k) snorm < suc k = ltb→lt _ _ (both_left low high u) in
        let g : down_from_top snorm (middle snorm k) + suc k ≤ steps snorm = leb→le _ _ (both_right low high u) in
        ⊎_elim (λ m. from_above k g (top_anti snorm (middle snorm k) x m)) (λ m. absurd (from_below k l e (down_mono snorm x (middle snorm k) (le_of_lt x (middle snorm k) m))))
        (le_total (middle snorm k) x (is_false _ (both_left real' (both low high) (unfold parted in t))) real)
      where
        from_above : (k : ℕ) → down_from_top snorm (middle snorm k) + suc k ≤ steps snorm → down_from_top snorm x ≤ down_from_top snorm (middle snorm k) → suc k + down_from_top snorm x ≤ steps snorm
        from_above k g m = omega arith

        from_below : (k : ℕ) → rounded_down (middle snorm k) snorm < suc k → rounded_down x snorm ≡ suc k → rounded_down x snorm ≤ rounded_down (middle snorm k) snorm → ⊥
        from_below k l e m = omega arith

    go : (n : ℕ) → rounded_down x snorm ≡ n → n ≤ steps snorm → n + down_from_top snorm x ≤ steps snorm
    go zero e h = omega arith
    go (suc k) e h = at_middle k e (at (parted snorm) (steps snorm) (every_parted snorm) k (omega arith))
