-- What the clamps give is in 0..1, for every float; the smaller and the larger of two floats are in order, or both a NaN.
use Rattle.std.proofs.Common.{◌≡◌, Bool, true, false, cond, ◌||◌, ◌⊎◌, refl, inl, inr}
use lib.Ieee.{Float, nan, lt, le, is_nan, of_bits}
use Rattle.floats.specs.Arithmetic.{f0, f1}
use Rattle.floats.specs.Helpers.{lane_min, lane_max, min_of, max_of, clamp_of, entry_clamp}
use Rattle.floats.proofs.Tests.{clash}
use Rattle.floats.proofs.Order.{lt_asym, lt_left, lt_right, lt_le_trans, le_lt_trans, le_left, le_right, le_of_lt, le_of_not, le_refl, ne_self, is_nan_lem}

pub real_0 : is_nan f0 ≡ false
unfolding is_nan of_bits
real_0 = refl

pub real_1 : is_nan f1 ≡ false
unfolding is_nan of_bits
real_1 = refl

zero_one : le f0 f1 ≡ true
unfolding le of_bits
zero_one = refl

-- ---- at entry
pub entry_from_0 : (x : Float) → le f0 (entry_clamp x) ≡ true
entry_from_0 x = outer (lane_max x f0) (inner (lt f0 x) refl)
  where
    inner : (t : Bool) → lt f0 x ≡ t → le f0 (cond t x f0) ≡ true
    inner true e = le_of_lt f0 x e
    inner false e = le_refl f0 real_0

    outer : (y : Float) → le f0 y ≡ true → le f0 (lane_min y f1) ≡ true
    outer y k = pick (lt y f1)
      where
        pick : (t : Bool) → le f0 (cond t y f1) ≡ true
        pick true = k
        pick false = zero_one

pub entry_to_1 : (x : Float) → le (entry_clamp x) f1 ≡ true
entry_to_1 x = go (lane_max x f0) (lt (lane_max x f0) f1) refl
  where
    go : (y : Float) (t : Bool) → lt y f1 ≡ t → le (cond t y f1) f1 ≡ true
    go y true e = le_of_lt y f1 e
    go y false e = le_refl f1 real_1

-- ---- f32::clamp, off NaN
pub clamp_nan : clamp_of nan ≡ nan
unfolding lt of_bits
clamp_nan = refl

pub clamp_from_0 : (x : Float) → is_nan x ≡ false → le f0 (clamp_of x) ≡ true
clamp_from_0 x n = go (lt x f0) refl (lt f1 x)
  where
    go : (t : Bool) → lt x f0 ≡ t → (u : Bool) → le f0 (cond t f0 (cond u f1 x)) ≡ true
    go true e u = le_refl f0 real_0
    go false e true = zero_one
    go false e false = le_of_not f0 x real_0 n e

pub clamp_to_1 : (x : Float) → is_nan x ≡ false → le (clamp_of x) f1 ≡ true
clamp_to_1 x n = go (lt x f0) (lt f1 x) refl
  where
    go : (t u : Bool) → lt f1 x ≡ u → le (cond t f0 (cond u f1 x)) f1 ≡ true
    go true u e = zero_one
    go false true e = le_refl f1 real_1
    go false false e = le_of_not x f1 n real_1 e

pub clamp_mono : (x y : Float) → le x y ≡ true → le (clamp_of x) (clamp_of y) ≡ true
clamp_mono x y h = go (lt x f0) refl (lt f1 x) refl (lt y f0) refl (lt f1 y) refl
  where
    go : (t : Bool) → lt x f0 ≡ t → (u : Bool) → lt f1 x ≡ u → (v : Bool) → lt y f0 ≡ v → (w : Bool) → lt f1 y ≡ w
        → le (cond t f0 (cond u f1 x)) (cond v f0 (cond w f1 y)) ≡ true
    go true a u b true c w d = le_refl f0 real_0
    go true a u b false c true d = zero_one
    go true a u b false c false d = le_of_not f0 y real_0 (le_right x y h) c
    go false a u b true c w d = clash (le_lt_trans x y f0 h c) a
    go false a true b false c true d = le_refl f1 real_1
    go false a true b false c false d = clash (lt_le_trans f1 x y b h) d
    go false a false b false c true d = le_of_not x f1 (le_left x y h) real_1 b
    go false a false b false c false d = h

-- ---- f32::min and f32::max
pub min_max_lem : (x y : Float) → ((min_of x y ≡ nan) × (max_of x y ≡ nan)) ⊎ (le (min_of x y) (max_of x y) ≡ true)
min_max_lem x y = rw (ne_self x) (go (lt y x) refl (lt x y) refl (is_nan x) refl (is_nan y) refl)
  where
    go : (s : Bool) → lt y x ≡ s → (t : Bool) → lt x y ≡ t → (n : Bool) → is_nan x ≡ n → (k : Bool) → is_nan y ≡ k
        → ((cond (s || n) y x ≡ nan) × (cond (t || n) y x ≡ nan)) ⊎ (le (cond (s || n) y x) (cond (t || n) y x) ≡ true)
    go true a true b n c k d = clash b (lt_asym y x a)
    go true a false b true c k d = clash c (lt_right y x a)
    go true a false b false c k d = inr (le_of_lt y x a)
    go false a true b true c k d = clash c (lt_left x y b)
    go false a true b false c k d = inr (le_of_lt x y b)
    go false a false b true c true d = inl (is_nan_lem y d, is_nan_lem y d)
    go false a false b true c false d = inr (le_refl y d)
    go false a false b false c k d = inr (le_refl x c)
