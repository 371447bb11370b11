-- The smallest and the largest of sixteen: whatever the order of comparing, none is beyond them, and each is one of the sixteen.
use mathlib.Core.Path.{◌≡◌, refl}
use mathlib.Core.List.{List}
use mathlib.Core.Bool.{Bool, true, false, cond}
use Prim.Native.Nat.{ℕ, ◌+◌, ◌<◌}
use native.Mathlib.Omega.{arith}
use lib.Ieee.{Float, lt, le, is_nan}
use Rattle.floats.specs.Arithmetic.{f0, f1}
use Rattle.floats.proofs.Order.{le_of_lt, le_of_not, le_refl, le_trans, le_left}
use Rattle.block.specs.Samples.{pixel_at}
use Rattle.block.specs.Orders.{down_lane, element}
use Rattle.block.specs.Block.{InUnit, smallest, largest}
use Rattle.block.proofs.Lanes.{Down, each_of_four, all_lanes}

abbrev Real : Float → Type 0
Real x = is_nan x ≡ false

-- ---- of two floats the one that a test prefers, over all sixteen
module _ (test : Float → Float → Bool) where
  abbrev op : Float → Float → Float
  op a b = cond (test a b) a b

  picks : (Q : Float → Type 0) (a b : Float) → Q a → Q b → Q (op a b)
  picks Q a b p q = go (test a b)
    where
      go : (t : Bool) → Q (cond t a b)
      go true = p
      go false = q

  -- what holds of each sample holds of the one that is picked
  over_all : (g : ℕ → Float) (Q : Float → Type 0) → ((i : ℕ) → i < 16 → Q (g i)) → Q (element op (down_lane op g))
  unfolding element
  over_all g Q each = picks Q _ _ (lane 0 (omega arith)) (picks Q _ _ (lane 1 (omega arith)) (picks Q _ _ (lane 2 (omega arith)) (lane 3 (omega arith))))
    where
      lane : (j : ℕ) → j < 4 → Q (down_lane op g j)
      lane j h = picks Q _ _ (picks Q _ _ (picks Q _ _ (each j (omega arith)) (each (j + 4) (omega arith))) (each (j + 8) (omega arith))) (each (j + 12) (omega arith))

  -- where the test is an order off NaN, the one that is picked bounds all
  module _ (R : Float → Float → Type 0) (same : (a : Float) → Real a → R a a) (trans : (a b c : Float) → R a b → R b c → R a c)
      (yes : (a b : Float) → test a b ≡ true → R a b) (no : (a b : Float) → Real a → Real b → test a b ≡ false → R b a) where
    bounds : (a b : Float) → Real a → Real b → Real (op a b) × R (op a b) a × R (op a b) b
    bounds a b A B = go (test a b) refl
      where
        go : (t : Bool) → test a b ≡ t → Real (cond t a b) × R (cond t a b) a × R (cond t a b) b
        go true e = (A, same a A, yes a b e)
        go false e = (B, no a b A B e, same b B)

    down : (x y z w : Float) → Real x → Real y → Real z → Real w → let m = op (op (op x y) z) w in Real m × (R m x × R m y × R m z × R m w)
    down x y z w X Y Z W =
        let p = bounds x y X Y in
        let q = bounds _ z p.0 Z in
        let r = bounds _ w q.0 W in
        let up = trans _ _ (op x y) r.1 q.1 in
        (r.0, (trans _ _ x up p.1, trans _ _ y up p.2, trans _ _ z r.1 q.2, r.2))

    across : (x y z w : Float) → Real x → Real y → Real z → Real w → let m = op x (op y (op z w)) in R m x × R m y × R m z × R m w
    across x y z w X Y Z W =
        let p = bounds z w Z W in
        let q = bounds y _ Y p.0 in
        let r = bounds x _ X q.0 in
        let on = trans _ _ (op z w) r.2 q.2 in
        (r.1, trans _ _ y r.2 q.1, trans _ _ z on p.1, trans _ _ w on p.2)

    bounds_all : (g : ℕ → Float) → ((i : ℕ) → i < 16 → Real (g i)) → (i : ℕ) → i < 16 → R (element op (down_lane op g)) (g i)
    unfolding element
    bounds_all g real = all_lanes _ (λ j h. let t = over j h in let d = (lane j h).1 in (trans _ _ _ t d.0, trans _ _ _ t d.1, trans _ _ _ t d.2, trans _ _ _ t d.3))
      where
        lane : (j : ℕ) → j < 4 → Real (down_lane op g j) × Down (λ i. R (down_lane op g j) (g i)) j
        lane j h = down (g j) (g (j + 4)) (g (j + 8)) (g (j + 12)) (real j (omega arith)) (real (j + 4) (omega arith)) (real (j + 8) (omega arith)) (real (j + 12) (omega arith))

        over : (j : ℕ) → j < 4 → R (element op (down_lane op g)) (down_lane op g j)
        over = each_of_four _ (across (down_lane op g 0) (down_lane op g 1) (down_lane op g 2) (down_lane op g 3) (lane 0 (omega arith)).0 (lane 1 (omega arith)).0 (lane 2 (omega arith)).0 (lane 3 (omega arith)).0)

-- ---- the smallest and the largest
real : (b : List Float) → InUnit b → (i : ℕ) → i < 16 → Real (pixel_at b i)
real b u i h = le_left (pixel_at b i) f1 (u.to_1 i h)

-- No sample is below the smallest or above the largest,
pub smallest_le : (b : List Float) → InUnit b → (i : ℕ) → i < 16 → le (smallest b) (pixel_at b i) ≡ true
unfolding smallest
smallest_le b u = bounds_all lt (λ x y. le x y ≡ true) le_refl le_trans le_of_lt (λ x y X Y. le_of_not y x Y X) (pixel_at b) (real b u)

pub largest_ge : (b : List Float) → InUnit b → (i : ℕ) → i < 16 → le (pixel_at b i) (largest b) ≡ true
unfolding largest
largest_ge b u =
    bounds_all (λ x y. lt y x) (λ x y. le y x ≡ true) le_refl (λ x y z p q. le_trans z y x q p) (λ x y. le_of_lt y x) le_of_not (pixel_at b) (real b u)

-- and each of the two is one of the samples: what holds of all of them holds of it.
pub smallest_sample : (b : List Float) (Q : Float → Type 0) → ((i : ℕ) → i < 16 → Q (pixel_at b i)) → Q (smallest b)
unfolding smallest
smallest_sample b = over_all lt (pixel_at b)

pub largest_sample : (b : List Float) (Q : Float → Type 0) → ((i : ℕ) → i < 16 → Q (pixel_at b i)) → Q (largest b)
unfolding largest
largest_sample b = over_all (λ x y. lt y x) (pixel_at b)

-- so of samples in 0..1 both are in 0..1
pub extremes_unit : (b : List Float) → InUnit b → (le f0 (smallest b) ≡ true) × (le (smallest b) f1 ≡ true) × (le f0 (largest b) ≡ true) × (le (largest b) f1 ≡ true)
extremes_unit b u = (
  smallest_sample b (λ x. le f0 x ≡ true) u.from_0_lem,
  smallest_sample b (λ x. le x f1 ≡ true) u.to_1,
  largest_sample b (λ x. le f0 x ≡ true) u.from_0_lem,
  largest_sample b (λ x. le x f1 ≡ true) u.to_1,
)
