-- What rounding costs a blend of two ends, for each palette.
use mathlib.Core.Path.{◌≡◌, refl, sym, ap, ◌∙◌, subst}
use Prim.Native.Nat.{ℕ, ◌+◌, ◌-◌, ◌*◌, ◌^◌, ◌≤◌, ◌<◌}
use native.Mathlib.Nat.{le_trans, le_of_eq, mul_comm, mul_left_comm, mul-add, add-mul, mul-le-mul_left, mul-le-mul_right, mul-le-mul}
use native.Mathlib.Omega.{arith}
use mathlib.Core.Bool.{false}
use lib.Dec.{lit≤, lit<}
use lib.Ieee.{Float, binary32, of_bits}
use lib.Ieee.Exact.{HasValue}
use borrow.Author.Tests.{le-ltb}
use Rattle.floats.specs.Arithmetic.{◌⊕◌, ◌⊖◌, ◌⊗◌, whole}
use Rattle.floats.proofs.Monotone.{mul_comm as f_comm}
use Rattle.floats.proofs.Rounding.{Off, Rounds}
use Rattle.floats.proofs.RoundedResult.{add_rounds, sub_rounds, mul_rounds, whole_at}
use Rattle.palette.specs.Palettes.{seventh, fifth1, fifth2, fifth3, fifth4, inter6_palette, blended}
use Rattle.decode.proofs.Bits.{Units}
use Rattle.decode.proofs.Ends.{Near}

-- m times what is off by e
pub times : (m : ℕ) {x y e : ℕ} → Off x y e → Off (m * x) (m * y) (m * e)
times m {x} {y} {e} o = record {
  above = le_trans (mul-le-mul_left m o.above) (le_of_eq (mul-add m y e));
  under = le_trans (mul-le-mul_left m o.under) (le_of_eq (mul-add m x e));
}

-- two values up to 1
two : (t a b : ℕ) → a ≤ 67108864 * t → b ≤ 67108864 * t → a + b ≤ 134217728 * t
two t a b h k = omega arith

-- a product with a constant b / d that stands first
constant : (y x : Float) (b d a j : ℕ) → j ≤ 252 → 0 < d → a * b ≤ 2 ^ (24 + j) * d → HasValue y false b d → Units x a → Rounds (y ⊗ x) false (a * b) d j
constant y x b d a j J D h q p = subst (λ (z : Float). Rounds z false (a * b) d j) (f_comm binary32 x y) (mul_rounds x y false false a b d j J D h p q)

-- ---- six values. d units are a - b, f units a seventh of that, p units m times f, and r units p and b
seventh_value : HasValue seventh false 9586981 67108864
unfolding of_bits
seventh_value = (refl, refl)

difference : (x y : Float) (a b : ℕ) → b ≤ a → a ≤ 2 ^ 149 → Units x a → Units y b → Rounds (x ⊖ y) false (a - b) 1 126
difference x y a b l A p q = rw (le-ltb a b l) at (sub_rounds x y false false a b 126 (lit≤ tt) (two (2 ^ 123) a b A (le_trans l A)) p q)

-- d is at most 1 and the rounding
size : (t a b d : ℕ) → b ≤ a → a ≤ 67108864 * t → Off (d * 1 * 2) ((a - b) * 2) (1 * (8 * t)) → d ≤ 67108868 * t
size t a b d l A o = omega arith

under_half : (t d : ℕ) → d ≤ 67108868 * t → d * 9586981 ≤ 33554432 * t * 67108864
under_half t d h = omega arith

seventh_off : (t a b d f : ℕ) → b ≤ a → d ≤ 67108868 * t → Off (d * 1 * 2) ((a - b) * 2) (1 * (8 * t)) → Off (f * 67108864 * 2) (d * 9586981 * 2) (67108864 * (2 * t)) → Off (7 * f + b) a (15 * t)
seventh_off t a b d f l D o p = omega arith

under_one : (t d f m : ℕ) → d ≤ 67108868 * t → m ≤ 6 → Off (f * 67108864 * 2) (d * 9586981 * 2) (67108864 * (2 * t)) → f * m ≤ 67108864 * t * 1
under_one t d f m D M o =
    let x : f * m ≤ f * 6 = mul-le-mul_left f M in
    omega arith

six_off : (t m k a b f p r : ℕ) → m ≤ 6 → m + k ≡ 7 → Off (7 * f + b) a (15 * t) → Off (p * 1 * 2) (f * m * 2) (1 * (4 * t)) → Off (r * 1 * 2) ((p + b) * 2) (1 * (8 * t))
    → Off (7 * r) (m * a + k * b) (132 * t)
six_off t m k a b f p r M s o q h =
    let x : Off (m * (7 * f + b)) (m * a) (m * (15 * t)) = times m o in
    let y : m * (15 * t) ≤ 6 * (15 * t) = mul-le-mul_right (15 * t) M in
    let z : m * (7 * f + b) ≡ 7 * (f * m) + m * b = mul-add m (7 * f) b ∙ ap (λ (w : ℕ). w + m * b) (simp (mul_comm, mul_left_comm)) in
    let i : m * b + k * b ≡ 7 * b = sym (add-mul m k b) ∙ ap (λ (w : ℕ). w * b) s in
    omega arith

few : (m : ℕ) → m ≤ 6 → m ≤ 16777216
few m h = omega arith

pub six_blend : (x y : Float) (a b m k : ℕ) → Units x a → Units y b → b ≤ a → a ≤ 2 ^ 149 → m ≤ 6 → m + k ≡ 7
    → Near (blended (inter6_palette x y) m) 7 (m * a + k * b) (132 * 2 ^ 123)
unfolding blended inter6_palette
six_blend x y a b m k X Y l A M s =
    let t = 2 ^ 123 in
    let d = difference x y a b l A X Y in
    let D : d.n ≤ 67108868 * t = size t a b d.n l A d.off in
    let f = constant seventh (x ⊖ y) 9586981 67108864 d.n 124 (lit≤ tt) (lit< tt) (under_half t d.n D) seventh_value d.val in
    let part = seventh ⊗ (x ⊖ y) in
    let p = constant (whole m) part m 1 f.n 125 (lit≤ tt) (lit< tt) (under_one t d.n f.n m D M f.off) (whole_at m (few m M)) f.val in
    let r = add_rounds (whole m ⊗ part) y false false p.n b 126 (lit≤ tt) (two t p.n b p.top (le_trans l A)) p.val Y in
    record {
      r = r.n;
      ok = r.ok;
      val = r.val;
      off = six_off t m k a b f.n p.n r.n M s (seventh_off t a b d.n f.n l D d.off f.off) p.off r.off;
    }

-- ---- four values. p units are a times a constant, which is m fifths up to its rounding
-- a constant of the palette: its value q / c, and what it makes of a
pub record Fifth (v : Float) (m : ℕ) : Type 0 where
  pub q : ℕ
  pub c : ℕ
  pub pos : 0 < c
  pub small : q ≤ c
  pub val : HasValue v false q c
  pub off : (t a p : ℕ) → a ≤ 67108864 * t → Off (p * c * 2) (a * q * 2) (c * (4 * t)) → Off (5 * p) (m * a) (18 * t)

pub one_fifth : Fifth fifth1 1
unfolding of_bits
one_fifth = record { q = 13421773; c = 67108864; pos = lit< tt; small = lit≤ tt; val = (refl, refl); off = λ t a p A o. omega arith }

pub two_fifths : Fifth fifth2 2
unfolding of_bits
two_fifths = record { q = 13421773; c = 33554432; pos = lit< tt; small = lit≤ tt; val = (refl, refl); off = λ t a p A o. omega arith }

pub three_fifths : Fifth fifth3 3
unfolding of_bits
three_fifths = record { q = 10066330; c = 16777216; pos = lit< tt; small = lit≤ tt; val = (refl, refl); off = λ t a p A o. omega arith }

pub four_fifths : Fifth fifth4 4
unfolding of_bits
four_fifths = record { q = 13421773; c = 16777216; pos = lit< tt; small = lit≤ tt; val = (refl, refl); off = λ t a p A o. omega arith }

four_off : (t v w p q r : ℕ) → Off (5 * p) v (18 * t) → Off (5 * q) w (18 * t) → Off (r * 1 * 2) ((p + q) * 2) (1 * (8 * t)) → Off (5 * r) (v + w) (56 * t)
four_off t v w p q r x y z = omega arith

pub four_blend : (x y v w : Float) (a b m k : ℕ) → Fifth v m → Fifth w k → Units x a → Units y b → a ≤ 2 ^ 149 → b ≤ 2 ^ 149
    → Near (x ⊗ v ⊕ y ⊗ w) 5 (m * a + k * b) (56 * 2 ^ 123)
four_blend x y v w a b m k F G X Y A B =
    let t = 2 ^ 123 in
    let p = mul_rounds x v false false a F.q F.c 125 (lit≤ tt) F.pos (mul-le-mul A F.small) X F.val in
    let q = mul_rounds y w false false b G.q G.c 125 (lit≤ tt) G.pos (mul-le-mul B G.small) Y G.val in
    let r = add_rounds (x ⊗ v) (y ⊗ w) false false p.n q.n 126 (lit≤ tt) (two t p.n q.n p.top q.top) p.val q.val in
    record {
      r = r.n;
      ok = r.ok;
      val = r.val;
      off = four_off t (m * a) (k * b) p.n q.n r.n (F.off t a p.n A p.off) (G.off t b q.n B q.off) r.off;
    }
