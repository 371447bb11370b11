-- Signed numbers ±a: their order, and what a factor and a term do to it. The sum of two is given by its sign and its size, as `sum` rounds it.
use Rattle.std.proofs.Common.{◌≡◌, ℕ, zero, suc, ◌+◌, ◌-◌, ◌*◌, ◌<◌, ◌≤◌, Bool, true, false, cond, T, ltb, sym, refl, ap, ◌∙◌, mul-le-mul_right, mul-pos, zero-mul, arith, ltb-false, ltb-true}
use Rattle.floats.proofs.ExactResult.{gap, sign_of}

-- ±a ≤ ±b
abbrev pub Leq : Bool → ℕ → Bool → ℕ → Type 0
Leq false a false b = a ≤ b
Leq false a true b = (a ≡ 0) × (b ≡ 0)
Leq true a false b = T true
Leq true a true b = b ≤ a

pub leq_scaled : (s t : Bool) (a b k : ℕ) → Leq s a t b → Leq s (a * k) t (b * k)
leq_scaled false false a b k h = mul-le-mul_right k h
leq_scaled false true a b k h = (none a k h.0, none b k h.1)
  where
    none : (a k : ℕ) → a ≡ 0 → a * k ≡ 0
    none a k e = ap (λ (z : ℕ). z * k) e ∙ zero-mul k
leq_scaled true false a b k h = tt
leq_scaled true true a b k h = mul-le-mul_right k h

-- a product is 0 only where a factor is
pub zero_factor : (a d : ℕ) → 0 < d → a * d ≡ 0 → a ≡ 0
zero_factor zero d D e = refl
zero_factor (suc a) d D e = absurd (some (suc a * d) (mul-pos (one_more a) D) e)
  where
    one_more : (a : ℕ) → 0 < suc a
    one_more a = omega arith

    some : (n : ℕ) → 0 < n → n ≡ 0 → ⊥
    some n h e = omega arith

-- ±p + ±b ≤ ±q + ±b for ±p ≤ ±q
pub sum_leq : (s t u : Bool) (p q b : ℕ) → Leq s p t q → Leq (sign_of s p u b) (gap s p u b) (sign_of t q u b) (gap t q u b)
sum_leq false false false p q b h = omega arith
sum_leq false false true p q b h = go (ltb p b) refl (ltb q b) refl
  where
    go : (x : Bool) → ltb p b ≡ x → (y : Bool) → ltb q b ≡ y → Leq (cond x true false) (cond x (b - p) (p - b)) (cond y true false) (cond y (b - q) (q - b))
    go true e true g = omega arith
    go true e false g = tt
    go false e true g = absurd (omega (arith, ltb-false p b e, ltb-true q b g))
    go false e false g = omega arith
sum_leq false true false p q b h = go (ltb q b) refl (ltb b q) refl
  where
    go : (x : Bool) → ltb q b ≡ x → (y : Bool) → ltb b q ≡ y → Leq false (p + b) (cond x false y) (cond x (b - q) (q - b))
    go true e y g = omega arith
    go false e true g = absurd (omega (arith, ltb-true b q g))
    go false e false g = omega (arith, ltb-false q b e)
sum_leq false true true p q b h = go (ltb p b) refl
  where
    go : (x : Bool) → ltb p b ≡ x → Leq (cond x true false) (cond x (b - p) (p - b)) true (q + b)
    go true e = omega arith
    go false e = let k : b ≤ p = ltb-false p b e in omega arith
sum_leq true false false p q b h = go (ltb p b) refl (ltb b p) refl
  where
    go : (x : Bool) → ltb p b ≡ x → (y : Bool) → ltb b p ≡ y → Leq (cond x false y) (cond x (b - p) (p - b)) false (q + b)
    go true e y g = omega arith
    go false e true g = tt
    go false e false g = omega (arith, ltb-false b p g)
sum_leq true false true p q b h = go (ltb q b)
  where
    go : (x : Bool) → Leq true (p + b) (cond x true false) (cond x (b - q) (q - b))
    go true = omega arith
    go false = tt
sum_leq true true false p q b h = go (ltb p b) refl (ltb b p) refl (ltb q b) refl (ltb b q) refl
  where
    go : (x : Bool) → ltb p b ≡ x → (y : Bool) → ltb b p ≡ y → (z : Bool) → ltb q b ≡ z → (w : Bool) → ltb b q ≡ w
        → Leq (cond x false y) (cond x (b - p) (p - b)) (cond z false w) (cond z (b - q) (q - b))
    go true e y g true d w c = omega arith
    go true e y g false d w c = absurd (omega (arith, ltb-true p b e, ltb-false q b d))
    go false e true g true d w c = tt
    go false e true g false d true c = omega arith
    go false e true g false d false c = tt
    go false e false g true d w c = omega (arith, ltb-false b p g)
    go false e false g false d true c = absurd (omega (arith, ltb-false b p g, ltb-true b q c))
    go false e false g false d false c = omega (arith, ltb-false b p g)
sum_leq true true true p q b h = omega arith

-- a - b ≤ c - d, and a - b ≤ c
pub differences_leq : (a b c d : ℕ) → a + d ≤ c + b → Leq (sign_of false a true b) (gap false a true b) (sign_of false c true d) (gap false c true d)
differences_leq a b c d h = go (ltb a b) refl (ltb c d) refl
  where
    go : (x : Bool) → ltb a b ≡ x → (y : Bool) → ltb c d ≡ y → Leq (cond x true false) (cond x (b - a) (a - b)) (cond y true false) (cond y (d - c) (c - d))
    go true e true g = omega arith
    go true e false g = tt
    go false e true g = absurd (omega (arith, ltb-false a b e, ltb-true c d g))
    go false e false g = omega arith

pub difference_leq : (a b c : ℕ) → a ≤ c + b → Leq (sign_of false a true b) (gap false a true b) false c
difference_leq a b c h = go (ltb a b)
  where
    go : (x : Bool) → Leq (cond x true false) (cond x (b - a) (a - b)) false c
    go true = tt
    go false = omega arith

-- a sum may be turned round
gap_apart : (a b : ℕ) → gap true a false b ≡ gap false b true a
gap_apart a b = go (ltb a b) refl (ltb b a) refl
  where
    go : (x : Bool) → ltb a b ≡ x → (y : Bool) → ltb b a ≡ y → cond x (b - a) (a - b) ≡ cond y (a - b) (b - a)
    go true e true g = absurd (omega (arith, ltb-true a b e, ltb-true b a g))
    go true e false g = refl
    go false e true g = refl
    go false e false g = omega (arith, ltb-false a b e, ltb-false b a g)

pub gap_comm : (s t : Bool) (a b : ℕ) → gap s a t b ≡ gap t b s a
gap_comm true true a b = omega arith
gap_comm false false a b = omega arith
gap_comm true false a b = gap_apart a b
gap_comm false true a b = sym (gap_apart b a)

sign_apart : (a b : ℕ) → sign_of true a false b ≡ sign_of false b true a
sign_apart a b = go (ltb a b) refl (ltb b a) refl
  where
    go : (x : Bool) → ltb a b ≡ x → (y : Bool) → ltb b a ≡ y → cond x false y ≡ cond y true false
    go true e true g = absurd (omega (arith, ltb-true a b e, ltb-true b a g))
    go true e false g = refl
    go false e true g = refl
    go false e false g = refl

pub sign_comm : (s t : Bool) (a b : ℕ) → sign_of s a t b ≡ sign_of t b s a
sign_comm true true a b = refl
sign_comm false false a b = refl
sign_comm true false a b = sign_apart a b
sign_comm false true a b = sym (sign_apart b a)
