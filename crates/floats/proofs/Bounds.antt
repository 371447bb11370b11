-- Bounds by whole numbers. An operation on values within bounds is within the bound that the bounds' own sum or product gives, as long as
-- that is at most 2 ^ prec, up to which a format holds every whole number. So it is finite, and no NaN.
use Rattle.std.proofs.Common.{◌≡◌, ℕ, ◌+◌, ◌-◌, ◌*◌, ◌^◌, ◌<◌, ◌≤◌, Bool, true, false, cond, ◌&&◌, T, eqb, ltb, sym, refl, ap, ◌∙◌, subst, true≢false, le_trans, le_of_eq, mul-le-mul_right, zero-lt-suc, mul_assoc, mul_comm, add-mul, mul-le-mul, mul-pos, mul-one, mul_right_comm, le_of_mul-le-mul_right, mul_left_comm, arith, eqb→eq}
use mathlib.Core.Bool.{beq}
use lib.Ieee.{Float, nan, inf, fin, Format, prec, up, down, round, neg, sum, add, sub, mul, lt, le, unlike, is_nan, of_bits}
use lib.Ieee.Bits.{is_true}
use lib.Ieee.Fits.{down_pos, and_l}
use lib.Ieee.Exact.{HasValue}
use lib.Ieee.Order.{round_mono}
use lib.Ieee.Back.{round_whole}
use Rattle.floats.specs.Arithmetic.{f0, f1}
use Rattle.floats.specs.Helpers.{abs_of}
use Rattle.floats.specs.Bounds.{Within}
use Rattle.floats.proofs.Tests.{so, clash}
use Rattle.floats.proofs.Casts.{plain_le}
use Rattle.floats.proofs.Signs.{SignedBy, round_signed, round_mirror}

-- ---- what `round` gives is within a whole bound of the fraction
below_whole : (x y : Float) (B : ℕ) → SignedBy false x → HasValue y false B 1 → T (le x y) → Within B x
unfolding le
below_whole nan y B s v h = absurd s
below_whole (inf true) y B s v h = absurd (true≢false s)
below_whole (inf false) nan B s v h = absurd v
below_whole (inf false) (inf t) B s v h = absurd v
below_whole (inf false) (fin t n d) B s v h = absurd h
below_whole (fin true m e) y B s v h = absurd (true≢false s)
below_whole (fin false m e) nan B s v h = absurd v
below_whole (fin false m e) (inf t) B s v h = absurd v
below_whole (fin false m e) (fin true n d) B s v h = absurd (true≢false v.0)
below_whole (fin false m e) (fin false n d) B s v h =
    let k : m * up e * down d ≤ n * up d * down e = plain_le (m * up e * down d) (n * up d * down e) (is_true _ h) in
    let q : n * up d ≡ B * down d = sym (mul-one (n * up d)) ∙ v.1 in
    le_of_mul-le-mul_right (le_trans k (le_of_eq (ap (λ (z : ℕ). z * down e) q ∙ mul_right_comm B (down d) (down e)))) (down_pos d)

pub neg_within : (B : ℕ) (x : Float) → Within B x → Within B (neg x)
unfolding neg
neg_within B nan h = h
neg_within B (inf s) h = h
neg_within B (fin s m e) h = h

plain_within : (f : Format) (a c B : ℕ) → 0 < c → a ≤ B * c → B ≤ 2 ^ prec f → Within B (round f false a c)
plain_within f a c B C h k =
    below_whole (round f false a c) (round f false B 1) B (round_signed f false a c) (round_whole f false B k)
    (round_mono f a c B 1 C (zero-lt-suc 0) (le_trans (le_of_eq (mul-one a)) h))

pub round_within : (f : Format) (s : Bool) (a c B : ℕ) → 0 < c → a ≤ B * c → B ≤ 2 ^ prec f → Within B (round f s a c)
round_within f false a c B C h k = plain_within f a c B C h k
round_within f true a c B C h k = subst (Within B) (sym (round_mirror f a c)) (neg_within B (round f false a c) (plain_within f a c B C h k))

-- ---- the operations
pub cond_within : (B : ℕ) (t : Bool) (x y : Float) → Within B x → Within B y → Within B (cond t x y)
cond_within B true x y p q = p
cond_within B false x y p q = q

-- a / p within A is within A over a denominator p * q
scaled : (a A p q : ℕ) → a ≤ A * p → a * q ≤ A * (p * q)
scaled a A p q h = le_trans (mul-le-mul_right q h) (le_of_eq (mul_assoc A p q))

scaled' : (a A p q : ℕ) → a ≤ A * p → a * q ≤ A * (q * p)
scaled' a A p q h = le_trans (scaled a A p q h) (le_of_eq (ap (λ (z : ℕ). A * z) (mul_comm p q)))

both : (a b A B c : ℕ) → a ≤ A * c → b ≤ B * c → a + b ≤ (A + B) * c
both a b A B c p q = le_trans (sums a b (A * c) (B * c) p q) (le_of_eq (sym (add-mul A B c)))
  where
    sums : (a b x y : ℕ) → a ≤ x → b ≤ y → a + b ≤ x + y
    sums a b x y p q = omega arith

less : (a b x : ℕ) → a + b ≤ x → a - b ≤ x
less a b x h = omega arith

less' : (a b x : ℕ) → a + b ≤ x → b - a ≤ x
less' a b x h = omega arith

pub add_within : (f : Format) (A B : ℕ) (x y : Float) → A + B ≤ 2 ^ prec f → Within A x → Within B y → Within (A + B) (add f x y)
unfolding add
add_within f A B nan y k p q = absurd p
add_within f A B (inf s) y k p q = absurd p
add_within f A B (fin s m e) nan k p q = absurd q
add_within f A B (fin s m e) (inf t) k p q = absurd q
add_within f A B (fin s m e) (fin t n d) k p q =
    let a = m * up e * down d in
    let b = n * up d * down e in
    let c = down e * down d in
    let C : 0 < c = mul-pos (down_pos e) (down_pos d) in
    let h : a + b ≤ (A + B) * c = both a b A B c (scaled (m * up e) A (down e) (down d) p) (scaled' (n * up d) B (down d) (down e) q) in
    unfold sum in
    cond_within (A + B) (beq s t) _ _ (round_within f s (a + b) c (A + B) C h k)
    (cond_within (A + B) (ltb a b) _ _ (round_within f t (b - a) c (A + B) C (less' a b _ h) k) (round_within f (s && ltb b a) (a - b) c (A + B) C (less a b _ h) k))

pub sub_within : (f : Format) (A B : ℕ) (x y : Float) → A + B ≤ 2 ^ prec f → Within A x → Within B y → Within (A + B) (sub f x y)
unfolding sub
sub_within f A B x y k p q = add_within f A B x (neg y) k p (neg_within B y q)

pub mul_within : (f : Format) (A B : ℕ) (x y : Float) → A * B ≤ 2 ^ prec f → Within A x → Within B y → Within (A * B) (mul f x y)
unfolding mul
mul_within f A B nan y k p q = absurd p
mul_within f A B (inf s) y k p q = absurd p
mul_within f A B (fin s m e) nan k p q = absurd q
mul_within f A B (fin s m e) (inf t) k p q = absurd q
mul_within f A B (fin s m e) (fin t n d) k p q =
    round_within f (unlike s t) (m * up e * (n * up d)) (down e * down d) (A * B) (mul-pos (down_pos e) (down_pos d))
    (le_trans (mul-le-mul p q) (le_of_eq (simp (mul_assoc, mul_comm, mul_left_comm)))) k

pub abs_within : (B : ℕ) (x : Float) → Within B x → Within B (abs_of x)
abs_within B nan h = h
abs_within B (inf s) h = h
abs_within B (fin s m e) h = h

-- ---- what a bound says
pub within_real : (B : ℕ) (x : Float) → Within B x → is_nan x ≡ false
unfolding is_nan
within_real B nan p = absurd p
within_real B (inf s) p = absurd p
within_real B (fin s m e) p = refl

pub below_inf : (B : ℕ) (x : Float) → Within B x → lt x (inf false) ≡ true
unfolding lt
below_inf B nan p = absurd p
below_inf B (inf s) p = absurd p
below_inf B (fin s m e) p = refl

-- a larger bound will do
pub within_up : (A B : ℕ) (x : Float) → A ≤ B → Within A x → Within B x
within_up A B nan h p = p
within_up A B (inf s) h p = p
within_up A B (fin s m e) h p = le_trans p (mul-le-mul_right (down e) h)

-- ---- a value in 0..1 is within 1
pub unit_within : (x : Float) → le f0 x ≡ true → le x f1 ≡ true → Within 1 x
unfolding le lt of_bits
unit_within nan p q = clash p refl
unit_within (inf true) p q = clash p refl
unit_within (inf false) p q = clash q refl
unit_within (fin true m e) p q = zero_size (m * up e) (down e) (so p)
  where
    zero_size : (n d : ℕ) → T (eqb (0 * d) (n * 1) && eqb (0 * d) 0) → n ≤ 1 * d
    zero_size n d h = let z : 0 * d ≡ n * 1 = eqb→eq _ _ (and_l (eqb (0 * d) (n * 1)) (eqb (0 * d) 0) h) in omega arith
unit_within (fin false m e) p q = let k : m * up e * 1 ≤ 1 * 1 * down e = plain_le (m * up e * 1) (1 * 1 * down e) q in omega arith
