-- Differences: the size is the same from either side, and 1 less what is above 1 is negative and not lost in rounding.
use Rattle.std.proofs.Common.{◌≡◌, ℕ, zero, suc, ◌+◌, ◌*◌, ◌%◌, ◌^◌, ◌<◌, ◌≤◌, Bool, true, false, not, ◌&&◌, T, eqb, ltb, leb, ℤ, negsuc, sym, refl, ap, ◌∙◌, mul-le-mul_right, mul_comm, add-mul, arith, leb→le, ltb-true, le-ltb}
use lib.Ieee.{Float, nan, inf, fin, binary32, up, down, round, neg, sum, add, sub, lt, le, fits, is_nan, of_bits}
use lib.Ieee.Fits.{and_l, and_r}
use Rattle.floats.specs.Arithmetic.{◌⊖◌, f0, f1}
use Rattle.floats.specs.Helpers.{abs_of}
use Rattle.floats.proofs.Tests.{clash}
use Rattle.floats.proofs.Order.{le_lt_trans, le_of_not}
use Rattle.floats.proofs.ExactResult.{gap, sign_of, sum_is}
use Rattle.floats.proofs.Monotone.{add_comm, sub_anti}
use Rattle.floats.proofs.Distances.{abs_round}

-- ---- from either side: with both signs turned round
turned : (x y : Float) → abs_of (add binary32 x (neg y)) ≡ abs_of (add binary32 (neg x) y)
unfolding add neg
turned nan y = refl
turned (inf s) nan = refl
turned (inf true) (inf true) = refl
turned (inf true) (inf false) = refl
turned (inf false) (inf true) = refl
turned (inf false) (inf false) = refl
turned (inf s) (fin t n d) = refl
turned (fin s m e) nan = refl
turned (fin s m e) (inf t) = refl
turned (fin s m e) (fin t n d) =
    let a = m * up e * down d in
    let b = n * up d * down e in
    let c = down e * down d in
    ap abs_of (sum_is binary32 s a (not t) b c)
    ∙ abs_round (sign_of s a (not t) b) (gap s a (not t) b) c
    ∙ ap (λ (k : ℕ). round binary32 false k c) (both s t a b)
    ∙ sym (ap abs_of (sum_is binary32 (not s) a t b c) ∙ abs_round (sign_of (not s) a t b) (gap (not s) a t b) c)
  where
    both : (s t : Bool) (a b : ℕ) → gap s a (not t) b ≡ gap (not s) a t b
    both true true a b = refl
    both true false a b = refl
    both false true a b = refl
    both false false a b = refl

pub abs_sub : (x y : Float) → abs_of (x ⊖ y) ≡ abs_of (y ⊖ x)
unfolding sub
abs_sub x y = rw (add_comm binary32 y (neg x)) (turned x y)

-- ---- what f32 has above 1 is at least 2 ^ -149 above it
abbrev past_1 : Float
past_1 = fin false (2 ^ 149 + 1) (negsuc 148)

deep : (m : ℕ) (e : ℤ) → T (fits binary32 (fin false (suc m) e)) → down e ≤ 2 ^ 149
unfolding fits
deep m e p =
    let few = eqb (suc m % 2) 1 && ltb (suc m) (2 ^ 24) in
    leb→le _ _ (and_r few (leb (down e) (2 ^ 149)) (and_l (few && leb (down e) (2 ^ 149)) (ltb (suc m * up e) (2 ^ 128 * down e)) p))

from_past_1 : (m : ℕ) (e : ℤ) → T (fits binary32 (fin false (suc m) e)) → lt f1 (fin false (suc m) e) ≡ true → le past_1 (fin false (suc m) e) ≡ true
from_past_1 m e p h =
    le_of_not past_1 (fin false (suc m) e) (unfold is_nan in refl) (unfold is_nan in refl)
    (unfold lt in le-ltb _ _ (more (2 ^ 149) (down e) (suc m * up e) (deep m e p) (ltb-true _ _ (unfold lt of_bits in h))))
  where
    more : (u d a : ℕ) → d ≤ u → 1 * 1 * d < a * 1 → (u + 1) * d ≤ a * u
    more u d a h k = let l : d + 1 ≤ a = omega arith in omega (arith, add-mul u 1 d, add-mul d 1 u, mul_comm u d, mul-le-mul_right u l)

pub negative_past_1 : (x : Float) → T (fits binary32 x) → lt f1 x ≡ true → lt (f1 ⊖ x) f0 ≡ true
negative_past_1 nan p h = clash h (unfold lt of_bits in refl)
negative_past_1 (inf true) p h = clash h (unfold lt of_bits in refl)
negative_past_1 (inf false) p h = unfold lt sub add neg of_bits in refl
negative_past_1 (fin true m e) p h = clash h (unfold lt of_bits in refl)
negative_past_1 (fin false zero e) p h = absurd (nothing (down e) (up e) (ltb-true _ _ (unfold lt of_bits in h)))
  where
    nothing : (d u : ℕ) → 1 * 1 * d < 0 * u * 1 → ⊥
    nothing d u h = omega arith
negative_past_1 (fin false (suc m) e) p h =
    le_lt_trans (f1 ⊖ fin false (suc m) e) (f1 ⊖ past_1) f0 (sub_anti binary32 f1 past_1 (fin false (suc m) e) (unfold of_bits in tt) (from_past_1 m e p h))
    (unfold lt sub add neg sum round of_bits in refl)
