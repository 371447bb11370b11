-- The distances of a value in 0..1 from 0 and from 1, as f32 works them out: the value itself, and 1 less it. abs by the distance from 0.
use Rattle.std.proofs.Common.{◌≡◌, ℕ, zero, suc, ◌-◌, ◌*◌, ◌<◌, ◌≤◌, Bool, true, false, cond, not, ◌&&◌, T, ltb, ℤ, pos, sym, refl, ap, ◌∙◌, mul-pos, arith, ltb-false, ltb-true, lt-ltb}
use lib.Ieee.{Float, nan, inf, fin, binary32, up, down, round, neg, sum, add, sub, lt, le, fits, of_bits}
use lib.Ieee.Fits.{up_pos, down_pos}
use Rattle.floats.specs.Arithmetic.{◌⊖◌, f0, f1}
use Rattle.floats.specs.Helpers.{abs_of, lane_max}
use Rattle.floats.proofs.Tests.{so, clash}
use Rattle.floats.proofs.Casts.{plain_le}
use Rattle.floats.proofs.Signs.{SignedBy, round_signed, round_mirror, zero_exp, under_zero, above_zero}
use Rattle.floats.proofs.Order.{lt_le_trans}
use Rattle.floats.proofs.ExactResult.{gap, sign_of, sum_is, sub_at}
use Rattle.floats.proofs.Exactly.{round_fixed}
use Rattle.floats.proofs.Squares.{Plain}

abs_signed : (x : Float) → SignedBy false x → abs_of x ≡ x
abs_signed nan h = absurd h
abs_signed (inf s) h = ap inf (sym h)
abs_signed (fin s m e) h = ap (λ (t : Bool). fin t m e) (sym h)

abs_neg : (x : Float) → abs_of (neg x) ≡ abs_of x
unfolding neg
abs_neg nan = refl
abs_neg (inf s) = refl
abs_neg (fin s m e) = refl

pub abs_round : (s : Bool) (a c : ℕ) → abs_of (round binary32 s a c) ≡ round binary32 false a c
abs_round false a c = abs_signed (round binary32 false a c) (round_signed binary32 false a c)
abs_round true a c = rw (round_mirror binary32 a c) (abs_neg (round binary32 false a c) ∙ abs_signed (round binary32 false a c) (round_signed binary32 false a c))

from_nothing : (a : ℕ) → gap false 0 true a ≡ a
from_nothing a = go (ltb 0 a) refl
  where
    go : (t : Bool) → ltb 0 a ≡ t → cond t (a - 0) (0 - a) ≡ a
    go true e = omega arith
    go false e = omega (arith, ltb-false 0 a e)

from_0_lem : (s : Bool) (m : ℕ) (e : ℤ) → f0 ⊖ fin s m e ≡ sum binary32 false 0 (not s) (m * up e) (down e)
from_0_lem s m e = sub_at binary32 f0 (fin s m e) false s 0 (m * up e) (down e) (down_pos e) (unfold of_bits in (refl, none (down e))) (refl, refl)
  where
    none : (d : ℕ) → 0 * 1 * d ≡ 0 * 1
    none d = omega arith

pub distance_0 : (x : Float) → T (fits binary32 x) → Plain x → le x f1 ≡ true → abs_of (f0 ⊖ x) ≡ x
distance_0 nan p s h = clash h (unfold le in refl)
distance_0 (inf true) p s h = clash refl s
distance_0 (inf false) p s h = clash h (unfold le of_bits in refl)
distance_0 (fin true m e) p s h = clash refl s
distance_0 (fin false m e) p s h =
    ap abs_of (from_0_lem false m e ∙ sum_is binary32 false 0 true (m * up e) (down e))
    ∙ abs_round (sign_of false 0 true (m * up e)) (gap false 0 true (m * up e)) (down e)
    ∙ ap (λ (n : ℕ). round binary32 false n (down e)) (from_nothing (m * up e)) ∙ round_fixed m e p

-- ---- abs as the larger of x and 0 - x
summed : (s : Bool) (a c : ℕ) → 0 < a → sum binary32 false 0 (not s) a c ≡ cond s (round binary32 false a c) (neg (round binary32 false a c))
unfolding sum
summed true a c h = ap (λ (n : ℕ). round binary32 false n c) (omega arith)
summed false a c h = rw (lt-ltb 0 a h) (ap (λ (n : ℕ). round binary32 true n c) (omega arith) ∙ round_mirror binary32 a c)

mirrored : (s : Bool) (m : ℕ) (e : ℤ) → T (fits binary32 (fin false (suc m) e)) → f0 ⊖ fin s (suc m) e ≡ fin (not s) (suc m) e
unfolding neg
mirrored s m e p = from_0_lem s (suc m) e ∙ summed s (suc m * up e) (down e) (mul-pos (omega arith) (up_pos e)) ∙ rw (round_fixed (suc m) e p) (turned s)
  where
    turned : (s : Bool) → cond s (fin false (suc m) e) (fin true (suc m) e) ≡ fin (not s) (suc m) e
    turned true = refl
    turned false = refl

pub abs_is : (x : Float) → fits binary32 x ≡ true → lane_max x (f0 ⊖ x) ≡ abs_of x
abs_is nan p = unfold lt add sub neg of_bits in refl
abs_is (inf true) p = unfold lt add sub neg of_bits in refl
abs_is (inf false) p = unfold lt add sub neg of_bits in refl
abs_is (fin s zero e) p = at_zero s e (zero_exp e (unfold fits in so p))
  where
    plain : (s : Bool) → lane_max (fin s 0 (pos 0)) (f0 ⊖ fin s 0 (pos 0)) ≡ fin false 0 (pos 0)
    plain true = unfold lt add sub neg of_bits in refl
    plain false = unfold lt add sub neg of_bits in refl

    at_zero : (s : Bool) (e : ℤ) → e ≡ pos 0 → lane_max (fin s 0 e) (f0 ⊖ fin s 0 e) ≡ fin false 0 e
    at_zero s e h = rw h (plain s)
abs_is (fin true (suc m) e) p = rw (mirrored true m e (unfold fits in so p)) (unfold lt in refl)
abs_is (fin false (suc m) e) p =
    rw (mirrored false m e (so p), lt_le_trans (fin true (suc m) e) f0 (fin false (suc m) e) (under_zero m e) (above_zero m e)) refl

-- what is taken is no more, so the difference is not negative
minus_signed : (a b c : ℕ) → b ≤ a → SignedBy false (sum binary32 false a true b c)
unfolding sum
minus_signed a b c h = go (ltb a b) refl
  where
    go : (t : Bool) → ltb a b ≡ t → SignedBy false (cond t (round binary32 true (b - a) c) (round binary32 (false && ltb b a) (a - b) c))
    go true e = absurd (omega (arith, ltb-true a b e))
    go false e = round_signed binary32 false (a - b) c

pub distance_1 : (x : Float) → Plain x → le x f1 ≡ true → abs_of (f1 ⊖ x) ≡ f1 ⊖ x
distance_1 nan s h = clash h (unfold le in refl)
distance_1 (inf true) s h = clash refl s
distance_1 (inf false) s h = clash h (unfold le of_bits in refl)
distance_1 (fin true m e) s h = clash refl s
distance_1 (fin false m e) s h =
    let k : m * up e * 1 ≤ 1 * 1 * down e = plain_le (m * up e * 1) (1 * 1 * down e) (unfold le of_bits in h) in
    abs_signed (f1 ⊖ fin false m e)
    (unfold sub add of_bits neg in minus_signed (1 * 1 * down e) (m * up e * 1) (1 * down e) k)
