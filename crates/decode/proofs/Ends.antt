-- The ends' floats beside the fractions that they stand for.
-- In this file and the next ones `t` is 2 ^ 123 units: 1 is 67108864 * t, and half the last place of a value up to 1 is 2 * t. It stays a variable
-- wherever `omega` is used, which takes no number of more than 38 digits.
use mathlib.Core.Path.{◌≡◌, sym, ◌∙◌, subst}
use mathlib.Core.Logic.{inl, inr}
use Prim.Native.Nat.{ℕ, suc, ◌+◌, ◌*◌, ◌%◌, ◌^◌, ◌≤◌, ◌<◌}
use native.Mathlib.Nat.{le_trans, le_of_eq, le_of_mul-le-mul_left, eq-or-lt_of_le, mul_comm, mul_left_comm, mul-le-mul_right, suc-mul}
use native.Mathlib.Omega.{arith}
use mathlib.Core.Bool.{Bool, true, false}
use lib.Dec.{T, ltb→lt, lit≤, lit<}
use lib.Ieee.{Float, binary32, fits}
use Rattle.floats.specs.Arithmetic.{◌⊘◌, whole}
use Rattle.floats.proofs.Tests.{so}
use Rattle.floats.proofs.Rounding.{Off}
use Rattle.floats.proofs.RoundedResult.{ratio, whole_at}
use Rattle.values.specs.Values.{steps, level_of, level_value, value_of, byte_below}
use Rattle.values.proofs.Levels.{level_le}
use Rattle.values.proofs.SignedBytes.{signed_order}
use Rattle.decode.proofs.Bits.{Units, value_same}

-- x is r units, and den times that is num up to e
pub record Near (x : Float) (den num e : ℕ) : Type 0 where
  pub r : ℕ
  pub ok : T (fits binary32 x)
  pub val : Units x r
  pub off : Off (den * r) num e

-- x stands for n / d, and is at most 1
pub record End (x : Float) (d n : ℕ) : Type 0 where
  pub near : Near x d (n * 2 ^ 149) (d * (2 * 2 ^ 123))
  pub top : near.r ≤ 2 ^ 149

halved : (t a d v : ℕ) → Off (a * d * 2) (v * 2) (d * (4 * t)) → Off (d * a) v (d * (2 * t))
halved t a d v o =
    let x : d * (4 * t) ≡ 4 * (d * t) = mul_left_comm d 4 t in
    let y : d * (2 * t) ≡ 2 * (d * t) = mul_left_comm d 2 t in
    let z : a * d ≡ d * a = mul_comm a d in
    omega arith

end_of : (d n : ℕ) → 0 < d → d ≤ 2 ^ 24 → n ≤ d → End (whole n ⊘ whole d) d n
end_of d n D L N =
    let e = ratio (whole n) (whole d) n d 125 (lit≤ tt) D (le_trans (mul-le-mul_right (2 ^ 149) N) (le_of_eq (mul_comm d (2 ^ 149)))) (whole_at n (le_trans N L)) (whole_at d L) in
    record { near = record { r = e.n; ok = e.ok; val = e.val; off = halved (2 ^ 123) e.n d (n * 2 ^ 149) e.off }; top = e.top }

pub steps_pos : (snorm : Bool) → 0 < steps snorm
steps_pos true = lit< tt
steps_pos false = lit< tt

pub steps_few : (snorm : Bool) → steps snorm ≤ 255
steps_few true = lit≤ tt
steps_few false = lit≤ tt

abbrev pub EndOf : Bool → ℕ → Type 0
EndOf snorm b = End (value_of b snorm) (steps snorm) (level_of b snorm)

pub end_at : (snorm : Bool) (b : ℕ) → b < 256 → EndOf snorm b
unfolding level_value
end_at snorm b h = end_of (steps snorm) (level_of b snorm) (steps_pos snorm) (le_trans (steps_few snorm) (lit≤ tt)) (level_le snorm b h)

-- ---- order: a larger level has a larger float, for at most 2 ^ 24 steps
apart : (t d a b n0 n1 : ℕ) → d ≤ 16777216 → n1 < n0 → Off (d * a) (n0 * (67108864 * t)) (d * (2 * t)) → Off (d * b) (n1 * (67108864 * t)) (d * (2 * t)) → d * b ≤ d * a
apart t d a b n0 n1 D h o p =
    let x : suc n1 * t ≤ n0 * t = mul-le-mul_right t h in
    let y : suc n1 * t ≡ n1 * t + t = suc-mul n1 t in
    let u : d * (2 * t) ≡ 2 * (d * t) = mul_left_comm d 2 t in
    let v : n0 * (67108864 * t) ≡ 67108864 * (n0 * t) = mul_left_comm n0 67108864 t in
    let w : n1 * (67108864 * t) ≡ 67108864 * (n1 * t) = mul_left_comm n1 67108864 t in
    let z : d * t ≤ 16777216 * t = mul-le-mul_right t D in
    omega arith

pub ends_order : (snorm : Bool) (m n : ℕ) → m ≤ n → (X : End (level_value n snorm) (steps snorm) n) (Y : End (level_value m snorm) (steps snorm) m) → Y.near.r ≤ X.near.r
ends_order snorm m n h X Y =
    elim (eq-or-lt_of_le h) [
      | inl e ↦
          le_of_eq (value_same (level_value n snorm) false false Y.near.r X.near.r (2 ^ 149)
          (subst (λ (k : ℕ). Units (level_value k snorm) Y.near.r) e Y.near.val) X.near.val).1
      | inr l ↦
          le_of_mul-le-mul_left
          (apart (2 ^ 123) (steps snorm) X.near.r Y.near.r n m (le_trans (steps_few snorm) (lit≤ tt)) l X.near.off Y.near.off) (steps_pos snorm)
    ]

-- the lower of two bytes has no higher level, and not the highest one
pub below_level : (snorm : Bool) (b c : ℕ) → b < 256 → c < 256 → byte_below b c snorm ≡ true → (level_of b snorm ≤ level_of c snorm) × (level_of b snorm < steps snorm)
below_level true b c B C h =
    let l : (b + 128) % 256 < (c + 128) % 256 = ltb→lt ((b + 128) % 256) ((c + 128) % 256) (so (sym (signed_order b c B C) ∙ h)) in
    (omega arith, omega arith)
below_level false b c B C h = let l : b < c = ltb→lt b c (so h) in (omega arith, omega arith)
