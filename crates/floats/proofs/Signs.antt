-- Signs: `round` gives a value of the sign that it is handed, and the same size for either; a negation turns the order round. Zeros.
use Rattle.std.proofs.Common.{◌≡◌, ℕ, zero, suc, ◌+◌, ◌*◌, ◌^◌, ◌<◌, ◌≤◌, Bool, true, false, cond, not, ◌&&◌, ◌||◌, T, eqb, ltb, ℤ, pos, negsuc, sym, refl, ap, ◌∙◌, subst, add_comm, mul-pos, pow-suc, arith, eqb→eq, pow_pos, le-ltb, lt-ltb, ne_eqb}
use lib.Ieee.{Float, nan, inf, fin, Format, prec, emax, low, up, down, odd, units, round, lt, le, eq, neg, is_nan, of_bits}
use lib.Ieee.Fits.{round_is, up_pos, eq→eqb}
use lib.Ieee.Order.{drop, kept}
use Rattle.floats.specs.Arithmetic.{f0}
use Rattle.floats.proofs.Tests.{iff}
use Rattle.floats.proofs.Fractions.{le_mix, le_over}
use Rattle.floats.proofs.Order.{le_of_not}

-- ---- x has the sign s, and is no NaN
abbrev pub SignedBy : Bool → Float → Type 0
SignedBy s nan = ⊥
SignedBy s (inf t) = t ≡ s
SignedBy s (fin t m e) = t ≡ s

pub round_signed : (f : Format) (s : Bool) (a c : ℕ) → SignedBy s (round f s a c)
round_signed f s a c =
    let n = a * 2 ^ low f in
    subst (SignedBy s) (sym (round_is f s a c)) (in_units (kept (prec f) n c) (drop (prec f) n c))
  where
    in_odd : (d q k l : ℕ) → SignedBy s (odd d s q k l)
    in_odd d zero k l = unfold odd in refl
    in_odd d (suc q) k l = unfold odd in refl

    pick : (q k : ℕ) (t : Bool) → SignedBy s (cond t (odd (suc (prec f)) s q k (low f)) (inf s))
    pick q k true = in_odd (suc (prec f)) q k (low f)
    pick q k false = refl

    in_units : (q k : ℕ) → SignedBy s (units f s q k)
    in_units q k = unfold units in pick q k (ltb (q * 2 ^ k) (2 ^ (low f + suc (emax f))))

pub round_mirror : (f : Format) (a c : ℕ) → round f true a c ≡ neg (round f false a c)
round_mirror f a c =
    let n = a * 2 ^ low f in
    round_is f true a c ∙ in_units (kept (prec f) n c) (drop (prec f) n c) ∙ ap neg (sym (round_is f false a c))
  where
    in_odd : (d q k l : ℕ) → odd d true q k l ≡ neg (odd d false q k l)
    in_odd d zero k l = unfold odd neg in refl
    in_odd d (suc q) k l = unfold odd neg in refl

    pick : (q k : ℕ) (t : Bool) → cond t (odd (suc (prec f)) true q k (low f)) (inf true) ≡ neg (cond t (odd (suc (prec f)) false q k (low f)) (inf false))
    pick q k true = in_odd (suc (prec f)) q k (low f)
    pick q k false = unfold neg in refl

    in_units : (q k : ℕ) → units f true q k ≡ neg (units f false q k)
    in_units q k = unfold units in pick q k (ltb (q * 2 ^ k) (2 ^ (low f + suc (emax f))))

-- ---- negation
eqb_comm : (a b : ℕ) → eqb a b ≡ eqb b a
eqb_comm a b = iff _ _ (λ h. eq→eqb (sym (eqb→eq a b h))) (λ h. eq→eqb (sym (eqb→eq b a h)))

pub neg_le : (x y : Float) → le x y ≡ le (neg y) (neg x)
unfolding le lt eq neg
neg_le nan nan = refl
neg_le nan (inf t) = refl
neg_le nan (fin t n d) = refl
neg_le (inf s) nan = refl
neg_le (inf true) (inf true) = refl
neg_le (inf true) (inf false) = refl
neg_le (inf false) (inf true) = refl
neg_le (inf false) (inf false) = refl
neg_le (inf true) (fin t n d) = refl
neg_le (inf false) (fin t n d) = refl
neg_le (fin s m e) nan = refl
neg_le (fin s m e) (inf true) = refl
neg_le (fin s m e) (inf false) = refl
neg_le (fin false m e) (fin false n d) = ap (λ (k : Bool). ltb (m * up e * down d) (n * up d * down e) || (k && true)) (eqb_comm (m * up e * down d) (n * up d * down e))
neg_le (fin false m e) (fin true n d) = zeros (m * up e * down d) (n * up d * down e)
  where
    zeros : (a b : ℕ) → (eqb a b && eqb a 0) ≡ (eqb b a && eqb b 0)
    zeros a b = le_mix a b ∙ ap (λ (k : ℕ). not (ltb 0 k)) (add_comm b a) ∙ sym (le_mix b a)
neg_le (fin true m e) (fin false n d) = le_over (m * up e * down d) (n * up d * down e) ∙ sym (le_over (n * up d * down e) (m * up e * down d))
neg_le (fin true m e) (fin true n d) = ap (λ (k : Bool). ltb (n * up d * down e) (m * up e * down d) || (k && true)) (eqb_comm (m * up e * down d) (n * up d * down e))

-- ---- zeros, and what is not zero
big : (p : ℕ) → 0 < p → p * 2 * 1 ≡ 1 → ⊥
big p h e = omega arith

big' : (p : ℕ) → 0 < p → 1 * (p * 2) ≡ 1 → ⊥
big' p h e = omega arith

-- a zero that fits is written in one way
pub zero_exp : (e : ℤ) → T (eqb (up e * down e) 1) → e ≡ pos 0
zero_exp (pos zero) h = refl
zero_exp (pos (suc k)) h = absurd (big (2 ^ k) (pow_pos k) (subst (λ (n : ℕ). n * 1 ≡ 1) (pow-suc 2 k) (eqb→eq _ _ h)))
zero_exp (negsuc k) h = absurd (big' (2 ^ k) (pow_pos k) (subst (λ (n : ℕ). 1 * n ≡ 1) (pow-suc 2 k) (eqb→eq _ _ h)))

suc_pos : (m : ℕ) → 0 < suc m
suc_pos m = omega arith

-- what is not zero, and negative
pub under_zero : (m : ℕ) (e : ℤ) → lt (fin true (suc m) e) f0 ≡ true
unfolding lt of_bits
under_zero m e = lt-ltb 0 (suc m * up e * 1 + 0 * down e) (sum (suc m * up e) (down e) (mul-pos (suc_pos m) (up_pos e)))
  where
    sum : (a d : ℕ) → 0 < a → 0 < a * 1 + 0 * d
    sum a d h = omega arith

-- what is not zero, and not negative
pub over_zero : (m : ℕ) (e : ℤ) → (lt (fin false (suc m) e) f0 ≡ false) × (eq (fin false (suc m) e) f0 ≡ false)
unfolding lt eq of_bits
over_zero m e = (
  le-ltb (suc m * up e * 1) (0 * down e) (under (suc m * up e) (down e)),
  ap (λ (t : Bool). t && true) (ne_eqb (suc m * up e * 1) (0 * down e) (other (suc m * up e) (down e) (mul-pos (suc_pos m) (up_pos e)))),
)
  where
    under : (a d : ℕ) → 0 * d ≤ a * 1
    under a d = omega arith

    other : (a d : ℕ) → 0 < a → a * 1 ≡ 0 * d → ⊥
    other a d h e = omega arith

pub above_zero : (m : ℕ) (e : ℤ) → le f0 (fin false (suc m) e) ≡ true
above_zero m e = le_of_not f0 (fin false (suc m) e) (unfold is_nan of_bits in refl) (unfold is_nan in refl) (over_zero m e).0
