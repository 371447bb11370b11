-- A format writes a number in one way: two values that are the same fraction are the same datum, and a value that the format holds is rounded to itself.
use Rattle.std.proofs.Common.{◌≡◌, ℕ, zero, suc, ◌+◌, ◌-◌, ◌*◌, ◌/◌, ◌%◌, ◌^◌, ◌<◌, ◌≤◌, true, false, ◌&&◌, T, eqb, ltb, leb, ℤ, pos, negsuc, sym, refl, ap, ◌∙◌, subst, le_of_eq, lt_of_lt_of_le, mul_assoc, mul-lt-mul_of_pos_right, mul-one, mul_right_comm, not-le_of_lt, arith, ltb→lt, leb→le, pow_pos, pow_mono, pow-add, shl_lt}
use mathlib.Core.Logic.{dite}
use native.Mathlib.Nat.{eq_of_mul-eq-mul_right}
use lib.Pow.{pow-lt}
use native.Mathlib.Decide.{dec_lt}
use lib.Ieee.{Float, nan, inf, fin, binary32, prec, low, hid, up, down, size, round, fits, of_bits, to_bits}
use lib.Ieee.Bits.{of_bits-to_bits}
use lib.Ieee.Fits.{down_pos, round-fits, and_l, and_r}
use lib.Ieee.Exact.{HasValue, round_exact}
use lib.Ieee.Nearest.{div_same}
use lib.Ieee.Digits.{back}
use Rattle.floats.proofs.Tests.{clash}
use Rattle.floats.proofs.Signs.{zero_exp}

-- ---- one fraction, one datum
pub same_bits : (m : ℕ) (e : ℤ) (n : ℕ) (d : ℤ) → m * up e * down d ≡ n * up d * down e → to_bits binary32 (fin false m e) ≡ to_bits binary32 (fin false n d)
unfolding to_bits
same_bits m e n d h =
    ap (λ (k : ℕ). 0 + (size k - prec binary32) * hid binary32 + k / 2 ^ (size k - prec binary32))
    (div_same (m * up e * 2 ^ low binary32) (down e) (n * up d * 2 ^ low binary32) (down d) (down_pos e) (down_pos d) (scaled (m * up e) (down d) (n * up d) (down e) (2 ^ low binary32) h))
  where
    scaled : (a d b e k : ℕ) → a * d ≡ b * e → a * k * d ≡ b * k * e
    scaled a d b e k h = mul_right_comm a k d ∙ ap (λ (z : ℕ). z * k) h ∙ mul_right_comm b e k

pub fraction_unique : (m : ℕ) (e : ℤ) (n : ℕ) (d : ℤ) → T (fits binary32 (fin false m e)) → T (fits binary32 (fin false n d)) → m * up e * down d ≡ n * up d * down e → fin false m e ≡ fin false n d
fraction_unique m e n d f g h = sym (of_bits-to_bits binary32 (fin false m e) f) ∙ ap (of_bits binary32) (same_bits m e n d h) ∙ of_bits-to_bits binary32 (fin false n d) g

pub value_unique : (x y : Float) (a c : ℕ) → 0 < c → T (fits binary32 x) → T (fits binary32 y) → HasValue x false a c → HasValue y false a c → x ≡ y
value_unique nan y a c C f g p q = absurd p
value_unique (inf s) y a c C f g p q = absurd p
value_unique (fin s m e) nan a c C f g p q = absurd q
value_unique (fin s m e) (inf t) a c C f g p q = absurd q
value_unique (fin true m e) (fin t n d) a c C f g p q = clash refl p.0
value_unique (fin false m e) (fin true n d) a c C f g p q = clash refl q.0
value_unique (fin false m e) (fin false n d) a c C f g p q =
    fraction_unique m e n d f g
    (eq_of_mul-eq-mul_right c C (m * up e * down d) (n * up d * down e)
    (mul_right_comm (m * up e) (down d) c ∙ ap (λ (z : ℕ). z * down d) p.1 ∙ mul_right_comm a (down e) (down d) ∙ ap (λ (z : ℕ). z * down e) (sym q.1) ∙ mul_right_comm (n * up d) c (down e)))

-- ---- what the format holds is rounded to itself
module _ (m : ℕ) (e : ℤ) where
  digits : T (fits binary32 (fin false (suc m) e)) → (suc m < 2 ^ 24) × (down e ≤ 2 ^ 149) × (suc m * up e < 2 ^ 128 * down e)
  unfolding fits
  digits p =
      let odd = eqb (suc m % 2) 1 in
      let few = ltb (suc m) (2 ^ 24) in
      let deep = leb (down e) (2 ^ 149) in
      let large = ltb (suc m * up e) (2 ^ 128 * down e) in
      let three = and_l (odd && few && deep) large p in
      (ltb→lt _ _ (and_r odd few (and_l (odd && few) deep three)), leb→le _ _ (and_r (odd && few) deep three), ltb→lt _ _ (and_r (odd && few && deep) large p))

  scaled_up : (k : ℕ) → suc m * 2 ^ k * 2 ^ 149 ≡ suc m * 2 ^ (k + 149)
  scaled_up k = mul_assoc (suc m) (2 ^ k) (2 ^ 149) ∙ ap (λ (z : ℕ). suc m * z) (sym (pow-add 2 k 149))

round_held : (m : ℕ) (e : ℤ) → T (fits binary32 (fin false (suc m) e)) → HasValue (round binary32 false (suc m * up e) (down e)) false (suc m * up e) (down e)
round_held m (pos k) p =
    let d = digits m (pos k) p in
    let fine : suc m * 2 ^ (k + 149) < 2 ^ (149 + 128) =
    subst (λ (z : ℕ). z < 2 ^ (149 + 128)) (scaled_up m (pos k) k) (lt_of_lt_of_le (mul-lt-mul_of_pos_right d.2 (pow_pos 149)) (le_of_eq (top 1))) in
    round_exact binary32 false (suc m * 2 ^ k) 1 (suc m) (k + 149) (pow_pos 0) d.0 fine (scaled_up m (pos k) k ∙ sym (mul-one _))
  where
    top : (n : ℕ) → 2 ^ 128 * 1 * 2 ^ 149 ≡ 2 ^ (149 + 128)
    top n = refl
round_held m (negsuc k) p =
    let d = digits m (negsuc k) p in
    let K : suc k ≤ 149 = deep (suc k) d.1 in
    let j = 149 - suc k in
    round_exact binary32 false (suc m * 1) (2 ^ suc k) (suc m) j (pow_pos (suc k)) d.0
    (lt_of_lt_of_le (shl_lt 24 j d.0) (pow_mono (small j K)))
    (ap (λ (z : ℕ). z * 2 ^ 149) (mul-one (suc m)) ∙ ap (λ (z : ℕ). suc m * 2 ^ z) (sym (back 149 (suc k) K)) ∙ ap (λ (z : ℕ). suc m * z) (pow-add 2 j (suc k)) ∙ sym (mul_assoc (suc m) (2 ^ j) (2 ^ suc k)))
  where
    deep : (n : ℕ) → 2 ^ n ≤ 2 ^ 149 → n ≤ 149
    deep n h = dite (dec_lt 149 n) (λ l. absurd (not-le_of_lt (pow-lt l) h)) (λ l. omega arith)

    small : (j : ℕ) → suc k ≤ 149 → 24 + (149 - suc k) ≤ 149 + 128
    small j h = omega arith

pub round_fixed : (m : ℕ) (e : ℤ) → T (fits binary32 (fin false m e)) → round binary32 false (m * up e) (down e) ≡ fin false m e
round_fixed zero e p = at_zero e (zero_exp e (unfold fits in p))
  where
    at_zero : (e : ℤ) → e ≡ pos 0 → round binary32 false (0 * up e) (down e) ≡ fin false 0 e
    at_zero e h = rw h (unfold round in refl)
round_fixed (suc m) e p =
    value_unique (round binary32 false (suc m * up e) (down e)) (fin false (suc m) e) (suc m * up e) (down e) (down_pos e) (round-fits binary32 false (suc m * up e) (down e)) p (round_held m e p) (refl, refl)
