-- Signed fractions ±x / p, compared across as `lt` and `le` compare two finite floats: what carries from numbers to their order.
use Rattle.std.proofs.Common.{◌≡◌, ℕ, zero, suc, ◌+◌, ◌*◌, ◌<◌, ◌≤◌, Bool, true, false, not, ◌&&◌, ◌||◌, T, eqb, ltb, ◌⊎◌, sym, ap, ◌∙◌, subst, inl, inr, ⊎_elim, le_trans, le_of_eq, lt_of_lt_of_le, lt_of_le_of_lt, le_of_lt, lt_irrefl, mul-le-mul_right, eq-zero-or-pos, lt_of_mul-lt-mul_right, eq-or-lt_of_le, mul-lt-mul_of_pos_right, mul-pos, zero-mul, mul_right_comm, arith, eqb→eq, ltb→lt, lt→ltb, nltb→le}
use lib.Ieee.{below}
use lib.Ieee.Fits.{eq→eqb, and_i, and_l, and_r}
use lib.Ieee.Positive.{first_pos}
use Rattle.floats.proofs.Tests.{iff, split, or_i, or_e, not_i}

-- ---- fractions x / p, y / q, z / r
strict_le : (x y z p q r : ℕ) → 0 < p → x * q < y * p → y * r ≤ z * q → 0 < r → x * r < z * p
strict_le x y z p q r P h k R =
    lt_of_mul-lt-mul_right q
    (lt_of_le_of_lt (le_of_eq (mul_right_comm x r q))
    (lt_of_lt_of_le (mul-lt-mul_of_pos_right h R)
    (le_trans (le_of_eq (mul_right_comm y p r)) (le_trans (mul-le-mul_right p k) (le_of_eq (mul_right_comm z q p))))))

le_strict : (x y z p q r : ℕ) → 0 < p → x * q ≤ y * p → y * r < z * q → 0 < r → x * r < z * p
le_strict x y z p q r P h k R =
    lt_of_mul-lt-mul_right q
    (lt_of_le_of_lt (le_of_eq (mul_right_comm x r q))
    (lt_of_le_of_lt (mul-le-mul_right r h)
    (lt_of_le_of_lt (le_of_eq (mul_right_comm y p r)) (lt_of_lt_of_le (mul-lt-mul_of_pos_right k P) (le_of_eq (mul_right_comm z q p))))))

some : (a b : ℕ) → a < b → 0 < b
some a b h = omega arith

sum_l : (a b : ℕ) → 0 < a → 0 < a + b
sum_l a b h = omega arith

sum_r : (a b : ℕ) → 0 < b → 0 < a + b
sum_r a b h = omega arith

-- of two fractions with a sum above 0 one is above 0
one_pos : (x r z p : ℕ) → 0 < x * r + z * p → (0 < x) ⊎ (0 < z)
one_pos zero r z p h = inr (first_pos z p (subst (λ (k : ℕ). 0 < k) (ap (λ (k : ℕ). k + z * p) (zero-mul r) ∙ none (z * p)) h))
  where
    none : (a : ℕ) → 0 + a ≡ a
    none a = omega arith
one_pos (suc x) r z p h = inl (omega arith)

-- ---- `below`: ±x / p < ±y / q
module _ (x p y q z r : ℕ) (P : 0 < p) (Q : 0 < q) (R : 0 < r) where
  pub below_trans : (s t u : Bool) → T (below s (x * q) t (y * p)) → T (below t (y * r) u (z * q)) → T (below s (x * r) u (z * p))
  below_trans false false false h k = lt→ltb _ _ (strict_le x y z p q r P (ltb→lt _ _ h) (le_of_lt (ltb→lt _ _ k)) R)
  below_trans false false true h k = absurd k
  below_trans false true u h k = absurd h
  below_trans true false false h k = lt→ltb _ _ (sum_r (x * r) (z * p) (mul-pos (first_pos z q (some _ _ (ltb→lt _ _ k))) P))
  below_trans true false true h k = absurd k
  below_trans true true false h k = lt→ltb _ _ (sum_l (x * r) (z * p) (mul-pos (first_pos x q (some _ _ (ltb→lt _ _ h))) R))
  below_trans true true true h k = lt→ltb _ _ (strict_le z y x r q p R (ltb→lt _ _ k) (le_of_lt (ltb→lt _ _ h)) P)

  -- what lies between two fractions is above the first or below the second
  pub below_cotrans : (s t u : Bool) → T (below s (x * r) u (z * p)) → T (below s (x * q) t (y * p)) ⊎ T (below t (y * r) u (z * q))
  below_cotrans false false false h = ⊎_elim inl (λ n. inr (lt→ltb _ _ (le_strict y x z q p r Q (nltb→le _ _ n) (ltb→lt _ _ h) R))) (split (ltb (x * q) (y * p)))
  below_cotrans false t true h = absurd h
  below_cotrans false true false h = inr (lt→ltb _ _ (sum_r (y * r) (z * q) (mul-pos (first_pos z p (some _ _ (ltb→lt _ _ h))) Q)))
  below_cotrans true false true h = inl (lt→ltb _ _ (sum_l (x * q) (y * p) (mul-pos (first_pos x r (some _ _ (ltb→lt _ _ h))) Q)))
  below_cotrans true true true h = ⊎_elim inl (λ n. inr (lt→ltb _ _ (strict_le z x y r p q R (ltb→lt _ _ h) (nltb→le _ _ n) Q))) (split (ltb (y * p) (x * q)))
  below_cotrans true false false h = ⊎_elim (λ X. inl (lt→ltb _ _ (sum_l (x * q) (y * p) (mul-pos X Q)))) (λ Z. go Z (eq-zero-or-pos y)) (one_pos x r z p (ltb→lt _ _ h))
    where
      go : 0 < z → (y ≡ zero) ⊎ (0 < y) → T (ltb 0 (x * q + y * p)) ⊎ T (ltb (y * r) (z * q))
      go Z (inl e) = inr (subst (λ (k : ℕ). T (ltb (k * r) (z * q))) (sym e) (lt→ltb _ _ (lt_of_le_of_lt (le_of_eq (zero-mul r)) (mul-pos Z Q))))
      go Z (inr Y) = inl (lt→ltb _ _ (sum_r (x * q) (y * p) (mul-pos Y P)))
  below_cotrans true true false h = ⊎_elim (λ X. go X (eq-zero-or-pos y)) (λ Z. inr (lt→ltb _ _ (sum_r (y * r) (z * q) (mul-pos Z Q)))) (one_pos x r z p (ltb→lt _ _ h))
    where
      go : 0 < x → (y ≡ zero) ⊎ (0 < y) → T (ltb (y * p) (x * q)) ⊎ T (ltb 0 (y * r + z * q))
      go X (inl e) = inl (subst (λ (k : ℕ). T (ltb (k * p) (x * q))) (sym e) (lt→ltb _ _ (lt_of_le_of_lt (le_of_eq (zero-mul p)) (mul-pos X Q))))
      go X (inr Y) = inr (lt→ltb _ _ (sum_l (y * r) (z * q) (mul-pos Y R)))

pub below_irrefl : (s : Bool) (a : ℕ) → T (below s a s a) → ⊥
below_irrefl false a h = lt_irrefl a (ltb→lt a a h)
below_irrefl true a h = lt_irrefl a (ltb→lt a a h)

-- ---- `le`'s test, below or level, is the other's `below` denied
two : (a b : ℕ) → a < b → b < a → ⊥
two a b h k = omega arith

zeros : (a b : ℕ) → b + a ≤ 0 → (a ≡ b) × (a ≡ 0)
zeros a b h = omega arith

same_l : (a b : ℕ) → a ≡ b → b < a → ⊥
same_l a b e h = omega arith

same_z : (a b : ℕ) → a ≡ b → a ≡ 0 → 0 < b + a → ⊥
same_z a b e z h = omega arith

pub le_plain : (a b : ℕ) → (ltb a b || (eqb a b && true)) ≡ not (ltb b a)
le_plain a b =
    iff _ _
    (λ h. not_i (ltb b a) (λ k. ⊎_elim (λ l. two a b (ltb→lt _ _ l) (ltb→lt _ _ k)) (λ e. same_l a b (eqb→eq a b (and_l (eqb a b) true e)) (ltb→lt _ _ k)) (or_e (ltb a b) (eqb a b && true) h)))
    (λ h. or_i (ltb a b) (eqb a b && true) (⊎_elim (λ e. inr (and_i (eqb a b) true (eq→eqb e) tt)) (λ l. inl (lt→ltb _ _ l)) (eq-or-lt_of_le (nltb→le b a h))))

-- both negative
pub le_flip : (a b : ℕ) → (ltb b a || (eqb a b && true)) ≡ not (ltb a b)
le_flip a b = ap (λ (k : Bool). ltb b a || (k && true)) (iff (eqb a b) (eqb b a) (λ h. eq→eqb (sym (eqb→eq a b h))) (λ h. eq→eqb (sym (eqb→eq b a h)))) ∙ le_plain b a

-- a is not negative and b is: both are zeros
pub le_mix : (a b : ℕ) → (eqb a b && eqb a 0) ≡ not (ltb 0 (b + a))
le_mix a b =
    iff _ _
    (λ h. not_i (ltb 0 (b + a)) (λ k. same_z a b (eqb→eq a b (and_l (eqb a b) (eqb a 0) h)) (eqb→eq a 0 (and_r (eqb a b) (eqb a 0) h)) (ltb→lt 0 (b + a) k)))
    (λ h. and_i (eqb a b) (eqb a 0) (eq→eqb (zeros a b (nltb→le 0 (b + a) h)).0) (eq→eqb (zeros a b (nltb→le 0 (b + a) h)).1))

-- a is negative and b is not: always
pub le_over : (a b : ℕ) → (ltb 0 (a + b) || (eqb a b && eqb a 0)) ≡ true
le_over a b =
    iff _ true (λ h. tt)
    (λ h. ⊎_elim (λ k. or_i (ltb 0 (a + b)) (eqb a b && eqb a 0) (inl k))
    (λ k. or_i (ltb 0 (a + b)) (eqb a b && eqb a 0) (inr (and_i (eqb a b) (eqb a 0) (eq→eqb (both a b (nltb→le 0 (a + b) k)).0) (eq→eqb (both a b (nltb→le 0 (a + b) k)).1))))
    (split (ltb 0 (a + b))))
  where
    both : (a b : ℕ) → a + b ≤ 0 → (a ≡ b) × (a ≡ 0)
    both a b h = omega arith
