-- The operations at floats of which a fraction is known (`HasValue`), with either sign: each is `round` of the exact result.
use Rattle.std.proofs.Common.{◌≡◌, ℕ, ◌+◌, ◌-◌, ◌*◌, ◌<◌, ◌≤◌, Bool, true, false, cond, not, ◌&&◌, T, eqb, ltb, sym, refl, ap, ◌∙◌, subst, ap₂, mul_assoc, mul_comm, add-mul, lt_of_mul-lt-mul_right, mul-lt-mul_of_pos_right, mul-pos, mul_right_comm, arith, eqb→eq, ltb→lt, lt→ltb}
use native.Mathlib.Nat.{mul-sub, mul-mul-mul_comm}
use mathlib.Core.Bool.{beq}
use lib.Ieee.{Float, nan, inf, fin, Format, up, down, unlike, round, neg, sum, add, sub, mul, div}
use lib.Ieee.Fits.{down_pos, up_pos}
use lib.Ieee.Exact.{HasValue}
use lib.Ieee.Positive.{first_pos}
use lib.Ieee.Scale.{round_same}
use Rattle.floats.proofs.Tests.{iff}

-- ---- ±a / c + ±b / c by its size and sign
-- the size and the sign of ±a + ±b
abbrev pub gap : Bool → ℕ → Bool → ℕ → ℕ
gap s a t b = cond (beq s t) (a + b) (cond (ltb a b) (b - a) (a - b))

abbrev pub sign_of : Bool → ℕ → Bool → ℕ → Bool
sign_of s a t b = cond (beq s t) s (cond (ltb a b) t (s && ltb b a))

pub sum_is : (f : Format) (s : Bool) (a : ℕ) (t : Bool) (b c : ℕ) → sum f s a t b c ≡ round f (sign_of s a t b) (gap s a t b) c
unfolding sum
sum_is f s a t b c = go (beq s t) (ltb a b)
  where
    go : (p q : Bool) → cond p (round f s (a + b) c) (cond q (round f t (b - a) c) (round f (s && ltb b a) (a - b) c))
        ≡ round f (cond p s (cond q t (s && ltb b a))) (cond p (a + b) (cond q (b - a) (a - b))) c
    go true q = refl
    go false true = refl
    go false false = refl

pub gap_le : (s : Bool) (a : ℕ) (t : Bool) (b : ℕ) → gap s a t b ≤ a + b
gap_le s a t b = go (beq s t) (ltb a b)
  where
    go : (p q : Bool) → cond p (a + b) (cond q (b - a) (a - b)) ≤ a + b
    go true q = omega arith
    go false true = omega arith
    go false false = omega arith

-- ---- the same fractions over another denominator
sub_mul : (a b c : ℕ) → (a - b) * c ≡ a * c - b * c
sub_mul a b c = mul_comm (a - b) c ∙ mul-sub c a b ∙ ap₂ ◌-◌ (mul_comm c a) (mul_comm c b)

-- ---- a / c is a' / c', and b / c is b' / c'
cross_lt : (a b c a' b' c' : ℕ) → 0 < c' → a * c' ≡ a' * c → b * c' ≡ b' * c → a < b → a' < b'
cross_lt a b c a' b' c' C' p q h = lt_of_mul-lt-mul_right c (subst (λ (z : ℕ). z < b' * c) p (subst (λ (z : ℕ). a * c' < z) q (mul-lt-mul_of_pos_right h C')))

cross_ltb : (a b c a' b' c' : ℕ) → 0 < c → 0 < c' → a * c' ≡ a' * c → b * c' ≡ b' * c → ltb a b ≡ ltb a' b'
cross_ltb a b c a' b' c' C C' p q =
    iff (ltb a b) (ltb a' b')
    (λ (t : T (ltb a b)). lt→ltb a' b' (cross_lt a b c a' b' c' C' p q (ltb→lt a b t)))
    (λ (t : T (ltb a' b')). lt→ltb a b (cross_lt a' b' c' a b c C (sym p) (sym q) (ltb→lt a' b' t)))

pub sum_same : (f : Format) (s : Bool) (a : ℕ) (t : Bool) (b c a' b' c' : ℕ) → 0 < c → 0 < c' → a * c' ≡ a' * c → b * c' ≡ b' * c → sum f s a t b c ≡ sum f s a' t b' c'
unfolding sum
sum_same f s a t b c a' b' c' C C' p q =
    let x : round f s (a + b) c ≡ round f s (a' + b') c' = round_same f s (a + b) c (a' + b') c' C C' (add-mul a b c' ∙ ap₂ ◌+◌ p q ∙ sym (add-mul a' b' c)) in
    let y : round f t (b - a) c ≡ round f t (b' - a') c' = round_same f t (b - a) c (b' - a') c' C C' (sub_mul b a c' ∙ ap₂ ◌-◌ q p ∙ sym (sub_mul b' a' c)) in
    let z : round f (s && ltb b a) (a - b) c ≡ round f (s && ltb b' a') (a' - b') c' =
    ap (λ (w : Bool). round f (s && w) (a - b) c) (cross_ltb b a c b' a' c' C C' q p)
    ∙ round_same f (s && ltb b' a') (a - b) c (a' - b') c' C C' (sub_mul a b c' ∙ ap₂ ◌-◌ p q ∙ sym (sub_mul a' b' c)) in
    ap₂ (λ (u v : Float). cond (beq s t) u v) x
    (ap (λ (w : Bool). cond w (round f t (b - a) c) (round f (s && ltb b a) (a - b) c)) (cross_ltb a b c a' b' c' C C' p q)
    ∙ ap₂ (λ (u v : Float). cond (ltb a' b') u v) y z)

-- ---- the operations
pub add_at : (f : Format) (x y : Float) (s t : Bool) (a b c : ℕ) → 0 < c → HasValue x s a c → HasValue y t b c → add f x y ≡ sum f s a t b c
unfolding add
add_at f nan y s t a b c C p q = absurd p
add_at f (inf u) y s t a b c C p q = absurd p
add_at f (fin u m e) nan s t a b c C p q = absurd q
add_at f (fin u m e) (inf v) s t a b c C p q = absurd q
add_at f (fin u m e) (fin v n d) s t a b c C p q =
    ap₂ (λ (i j : Bool). sum f i (m * up e * down d) j (n * up d * down e) (down e * down d)) p.0 q.0
    ∙ sum_same f s (m * up e * down d) t (n * up d * down e) (down e * down d) a b c (mul-pos (down_pos e) (down_pos d)) C
    (mul_right_comm (m * up e) (down d) c ∙ ap (λ (z : ℕ). z * down d) p.1 ∙ mul_assoc a (down e) (down d))
    (mul_right_comm (n * up d) (down e) c ∙ ap (λ (z : ℕ). z * down e) q.1 ∙ mul_assoc b (down d) (down e) ∙ ap (λ (z : ℕ). b * z) (mul_comm (down d) (down e)))

pub neg_at : (y : Float) (t : Bool) (b c : ℕ) → HasValue y t b c → HasValue (neg y) (not t) b c
unfolding neg
neg_at nan t b c q = absurd q
neg_at (inf v) t b c q = absurd q
neg_at (fin v n d) t b c q = (ap not q.0, q.1)

pub sub_at : (f : Format) (x y : Float) (s t : Bool) (a b c : ℕ) → 0 < c → HasValue x s a c → HasValue y t b c → sub f x y ≡ sum f s a (not t) b c
unfolding sub
sub_at f x y s t a b c C p q = add_at f x (neg y) s (not t) a b c C p (neg_at y t b c q)

pub mul_at : (f : Format) (x y : Float) (s t : Bool) (a c b d : ℕ) → 0 < c → 0 < d → HasValue x s a c → HasValue y t b d → mul f x y ≡ round f (unlike s t) (a * b) (c * d)
unfolding mul
mul_at f nan y s t a c b d C D p q = absurd p
mul_at f (inf u) y s t a c b d C D p q = absurd p
mul_at f (fin u m e) nan s t a c b d C D p q = absurd q
mul_at f (fin u m e) (inf v) s t a c b d C D p q = absurd q
mul_at f (fin u m e) (fin v n k) s t a c b d C D p q =
    ap₂ (λ (i j : Bool). round f (unlike i j) (m * up e * (n * up k)) (down e * down k)) p.0 q.0
    ∙ round_same f (unlike s t) (m * up e * (n * up k)) (down e * down k) (a * b) (c * d) (mul-pos (down_pos e) (down_pos k)) (mul-pos C D)
    (mul-mul-mul_comm (m * up e) (n * up k) c d ∙ ap₂ ◌*◌ p.1 q.1 ∙ mul-mul-mul_comm a (down e) b (down k))

-- a divisor above zero
not_zero : (n : ℕ) → 0 < n → eqb n 0 ≡ false
not_zero n h = go (eqb n 0) (eqb→eq n 0)
  where
    go : (b : Bool) → (T b → n ≡ 0) → b ≡ false
    go true k = absurd (omega (arith, k tt))
    go false k = refl

pub div_at : (f : Format) (x y : Float) (s t : Bool) (a c b d : ℕ) → 0 < c → 0 < d → 0 < b → HasValue x s a c → HasValue y t b d → div f x y ≡ round f (unlike s t) (a * d) (b * c)
unfolding div
div_at f nan y s t a c b d C D B p q = absurd p
div_at f (inf u) y s t a c b d C D B p q = absurd p
div_at f (fin u m e) nan s t a c b d C D B p q = absurd q
div_at f (fin u m e) (inf v) s t a c b d C D B p q = absurd q
div_at f (fin u m e) (fin v n k) s t a c b d C D B p q =
    let N : 0 < n = first_pos n (up k) (first_pos (n * up k) d (subst (λ (z : ℕ). 0 < z) (sym q.1) (mul-pos B (down_pos k)))) in
    let r = round f (unlike u v) (m * up e * down k) (n * up k * down e) in
    ap (λ (w : Bool). cond w (cond (eqb m 0) nan (inf (unlike u v))) r) (not_zero n N)
    ∙ ap₂ (λ (i j : Bool). round f (unlike i j) (m * up e * down k) (n * up k * down e)) p.0 q.0
    ∙ round_same f (unlike s t) (m * up e * down k) (n * up k * down e) (a * d) (b * c) (mul-pos (mul-pos N (up_pos k)) (down_pos e)) (mul-pos B C)
    (ap (λ (z : ℕ). m * up e * down k * z) (mul_comm b c)
    ∙ mul-mul-mul_comm (m * up e) (down k) c b
    ∙ ap₂ ◌*◌ p.1 (mul_comm (down k) b ∙ sym q.1)
    ∙ ap (λ (z : ℕ). a * down e * z) (mul_comm (n * up k) d)
    ∙ mul-mul-mul_comm a (down e) d (n * up k)
    ∙ ap (λ (z : ℕ). a * d * z) (mul_comm (down e) (n * up k)))
