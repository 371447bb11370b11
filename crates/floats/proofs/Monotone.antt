-- The operations keep the order, for all floats: rounding, a product with a factor above 0, a sum with a finite term; a difference turns it round.
-- Overflow, subnormals, infinities and zeros of either sign are all covered.
use Rattle.std.proofs.Common.{◌≡◌, ℕ, ◌*◌, ◌<◌, ◌≤◌, Bool, true, false, cond, ◌&&◌, ◌||◌, T, eqb, ltb, ℤ, sym, refl, ap, ◌∙◌, subst, ap₂, mul_assoc, mul_comm as n_comm, mul-pos, zero-mul, mul_left_comm, arith, lit<, eqb→eq, ltb→lt, ne_eqb, leb-true}
use lib.Ieee.{Float, nan, inf, fin, Format, binary32, binary64, up, down, unlike, round, neg, add, sub, mul, lt, le, eq, is_nan}
use lib.Ieee.Bits.{is_true}
use lib.Ieee.Fits.{down_pos, and_l, and_r}
use lib.Ieee.Exact.{HasValue}
use lib.Ieee.Order.{round_mono}
use lib.Ieee.Positive.{positive}
use lib.Ieee.Scale.{round_same, finite}
use Rattle.floats.proofs.Tests.{so, clash, leb_not_ltb}
use Rattle.floats.proofs.Fractions.{le_flip, le_over}
use Rattle.floats.proofs.Casts.{plain_le}
use Rattle.floats.proofs.Signs.{SignedBy, round_signed, round_mirror, neg_le}
use Rattle.floats.proofs.ExactResult.{gap, sign_of, sum_is, add_at}
use Rattle.floats.proofs.SignedOrder.{Leq, leq_scaled, zero_factor, sum_leq, gap_comm, sign_comm}

leq_of_le : (s : Bool) (m : ℕ) (e : ℤ) (t : Bool) (n : ℕ) (d : ℤ) → le (fin s m e) (fin t n d) ≡ true → Leq s (m * up e * down d) t (n * up d * down e)
unfolding le lt eq
leq_of_le false m e false n d h = plain_le (m * up e * down d) (n * up d * down e) h
leq_of_le false m e true n d h = zeros (m * up e * down d) (n * up d * down e) (so h)
  where
    zeros : (a b : ℕ) → T (eqb a b && eqb a 0) → (a ≡ 0) × (b ≡ 0)
    zeros a b h =
        let p : a ≡ b = eqb→eq a b (and_l (eqb a b) (eqb a 0) h) in
        let q : a ≡ 0 = eqb→eq a 0 (and_r (eqb a b) (eqb a 0) h) in
        (q, sym p ∙ q)
leq_of_le true m e false n d h = tt
leq_of_le true m e true n d h = flipped (m * up e * down d) (n * up d * down e) h
  where
    flipped : (a b : ℕ) → (ltb b a || (eqb a b && true)) ≡ true → b ≤ a
    flipped a b h = leb-true b a (sym (leb_not_ltb b a) ∙ sym (le_flip a b) ∙ h)

-- ---- rounding
under_over : (x y : Float) → SignedBy true x → SignedBy false y → le x y ≡ true
unfolding le lt eq
under_over nan y p q = absurd p
under_over (inf false) y p q = clash p refl
under_over (inf true) nan p q = absurd q
under_over (inf true) (inf true) p q = clash refl q
under_over (inf true) (inf false) p q = refl
under_over (inf true) (fin t n d) p q = refl
under_over (fin false m e) y p q = clash p refl
under_over (fin true m e) nan p q = absurd q
under_over (fin true m e) (inf true) p q = clash refl q
under_over (fin true m e) (inf false) p q = refl
under_over (fin true m e) (fin true n d) p q = clash refl q
under_over (fin true m e) (fin false n d) p q = le_over (m * up e * down d) (n * up d * down e)

round_zero : (f : Format) (s : Bool) (a c : ℕ) → 0 < c → a ≡ 0 → round f s a c ≡ round f s 0 1
round_zero f s a c C e = round_same f s a c 0 1 C (lit< tt) (ap (λ (z : ℕ). z * 1) e ∙ sym (zero-mul c))

pub round_leq : (f : Format) (s t : Bool) (a c b d : ℕ) → 0 < c → 0 < d → Leq s (a * d) t (b * c) → le (round f s a c) (round f t b d) ≡ true
round_leq f false false a c b d C D h = is_true _ (round_mono f a c b d C D h)
round_leq f false true a c b d C D h = rw (round_zero f false a c C (zero_factor a d D h.0), round_zero f true b d D (zero_factor b c C h.1)) (zeros f)
  where
    zeros : (f : Format) → le (round f false 0 1) (round f true 0 1) ≡ true
    zeros binary32 = unfold round le in refl
    zeros binary64 = unfold round le in refl
round_leq f true false a c b d C D h = under_over _ _ (round_signed f true a c) (round_signed f false b d)
round_leq f true true a c b d C D h =
    rw (round_mirror f a c, round_mirror f b d) (sym (neg_le (round f false b d) (round f false a c)) ∙ is_true _ (round_mono f b d a c D C h))

-- ---- a product with a factor above 0
-- a factor's signed product: its sign is the other's
product : (f : Format) (n : ℕ) (j : ℤ) (s : Bool) (m : ℕ) (e : ℤ) → mul f (fin false n j) (fin s m e) ≡ round f s (n * up j * (m * up e)) (down j * down e)
unfolding mul
product f n j true m e = refl
product f n j false m e = refl

infinite : (f : Format) (n : ℕ) (j : ℤ) (s : Bool) → 0 < n → mul f (fin false n j) (inf s) ≡ inf s
unfolding mul
infinite f n j true h = rw (ne_eqb n 0 (λ e. omega arith))
infinite f n j false h = rw (ne_eqb n 0 (λ e. omega arith))

-- below -infinity is nothing, and above it all that is no NaN
pub from_bottom : (x : Float) → is_nan x ≡ false → le (inf true) x ≡ true
unfolding le lt eq is_nan
from_bottom nan h = clash refl h
from_bottom (inf true) h = refl
from_bottom (inf false) h = refl
from_bottom (fin s m e) h = refl

pub to_top : (x : Float) → is_nan x ≡ false → le x (inf false) ≡ true
unfolding le lt eq is_nan
to_top nan h = clash refl h
to_top (inf true) h = refl
to_top (inf false) h = refl
to_top (fin s m e) h = refl

pub round_real : (f : Format) (s : Bool) (a c : ℕ) → is_nan (round f s a c) ≡ false
round_real f s a c = go (round f s a c) (round_signed f s a c)
  where
    go : (x : Float) → SignedBy s x → is_nan x ≡ false
    go nan h = absurd h
    go (inf t) h = unfold is_nan in refl
    go (fin t m e) h = unfold is_nan in refl

-- an operation that rounds at finite values, and leaves an infinity as it is, keeps the order if it keeps that of finite ones
module _ (g : Float → Float) (top : (s : Bool) → g (inf s) ≡ inf s) (real : (s : Bool) (m : ℕ) (e : ℤ) → is_nan (g (fin s m e)) ≡ false) where
  extended : ((s : Bool) (m : ℕ) (e : ℤ) (t : Bool) (n : ℕ) (d : ℤ) → le (fin s m e) (fin t n d) ≡ true → le (g (fin s m e)) (g (fin t n d)) ≡ true)
      → (x y : Float) → le x y ≡ true → le (g x) (g y) ≡ true
  extended k nan y h = clash h (unfold le in refl)
  extended k (inf true) nan h = clash h (unfold le in refl)
  extended k (inf true) (inf t) h = rw (top true, top t) h
  extended k (inf true) (fin t n d) h = rw (top true) (from_bottom _ (real t n d))
  extended k (inf false) nan h = clash h (unfold le in refl)
  extended k (inf false) (inf t) h = rw (top false, top t) h
  extended k (inf false) (fin t n d) h = clash h (unfold le in refl)
  extended k (fin s m e) nan h = clash h (unfold le in refl)
  extended k (fin s m e) (inf true) h = clash h (unfold le in refl)
  extended k (fin s m e) (inf false) h = rw (top false) (to_top _ (real s m e))
  extended k (fin s m e) (fin t n d) h = k s m e t n d h

-- ---- a product with a factor above 0
mul_fin : (f : Format) (a : ℕ) (j : ℤ) (s : Bool) (m : ℕ) (e : ℤ) (t : Bool) (n : ℕ) (d : ℤ) → le (fin s m e) (fin t n d) ≡ true
    → le (mul f (fin false a j) (fin s m e)) (mul f (fin false a j) (fin t n d)) ≡ true
mul_fin f a j s m e t n d h =
    rw (product f a j s m e, product f a j t n d)
    (round_leq f s t (a * up j * (m * up e)) (down j * down e) (a * up j * (n * up d)) (down j * down d) (mul-pos (down_pos j) (down_pos e)) (mul-pos (down_pos j) (down_pos d))
    (subst (λ (p : ℕ). Leq s p t (a * up j * (n * up d) * (down j * down e))) (crossed (a * up j) (m * up e) (down j) (down d))
    (subst (λ (p : ℕ). Leq s (m * up e * down d * (a * up j * down j)) t p) (crossed (a * up j) (n * up d) (down j) (down e))
    (leq_scaled s t (m * up e * down d) (n * up d * down e) (a * up j * down j) (leq_of_le s m e t n d h)))))
  where
    crossed : (a m j d : ℕ) → m * d * (a * j) ≡ a * m * (j * d)
    crossed a m j d = simp (mul_assoc, n_comm, mul_left_comm)

pub mul_mono : (f : Format) (c x y : Float) → T (positive c) → le x y ≡ true → le (mul f c x) (mul f c y) ≡ true
mul_mono f nan x y p h = absurd p
mul_mono f (inf s) x y p h = absurd p
mul_mono f (fin true a j) x y p h = absurd p
mul_mono f (fin false a j) x y p h =
    extended (mul f (fin false a j)) (λ s. infinite f a j s (ltb→lt 0 a p))
    (λ s m e. rw (product f a j s m e) (round_real f s (a * up j * (m * up e)) (down j * down e)))
    (mul_fin f a j) x y h

unlike_comm : (s t : Bool) → unlike s t ≡ unlike t s
unlike_comm true true = refl
unlike_comm true false = refl
unlike_comm false true = refl
unlike_comm false false = refl

-- a product may be turned round
pub mul_comm : (f : Format) (x y : Float) → mul f x y ≡ mul f y x
unfolding mul
mul_comm f nan nan = refl
mul_comm f nan (inf t) = refl
mul_comm f nan (fin t n d) = refl
mul_comm f (inf s) nan = refl
mul_comm f (inf s) (inf t) = ap inf (unlike_comm s t)
mul_comm f (inf s) (fin t n d) = ap (λ (u : Bool). cond (eqb n 0) nan (inf u)) (unlike_comm s t)
mul_comm f (fin s m e) nan = refl
mul_comm f (fin s m e) (inf t) = ap (λ (u : Bool). cond (eqb m 0) nan (inf u)) (unlike_comm s t)
mul_comm f (fin s m e) (fin t n d) =
    ap₂ (λ (a c : ℕ). round f (unlike s t) a c) (n_comm (m * up e) (n * up d)) (n_comm (down e) (down d))
    ∙ ap (λ (u : Bool). round f u (n * up d * (m * up e)) (down d * down e)) (unlike_comm s t)

-- ---- sums of which the fractions are known, over one denominator
pub add_leq : (f : Format) (x y z w : Float) (s t u v : Bool) (a b c d n : ℕ) → 0 < n → HasValue x s a n → HasValue y t b n → HasValue z u c n → HasValue w v d n
    → Leq (sign_of s a t b) (gap s a t b) (sign_of u c v d) (gap u c v d) → le (add f x y) (add f z w) ≡ true
add_leq f x y z w s t u v a b c d n N X Y Z W h =
    rw (add_at f x y s t a b n N X Y ∙ sum_is f s a t b n, add_at f z w u v c d n N Z W ∙ sum_is f u c v d n)
    (round_leq f (sign_of s a t b) (sign_of u c v d) (gap s a t b) n (gap u c v d) n N N
    (leq_scaled (sign_of s a t b) (sign_of u c v d) (gap s a t b) (gap u c v d) n h))

-- ---- a sum with a finite term
-- the three values over one denominator
add_fin : (f : Format) (u : Bool) (b : ℕ) (j : ℤ) (s : Bool) (m : ℕ) (e : ℤ) (t : Bool) (n : ℕ) (d : ℤ) → le (fin s m e) (fin t n d) ≡ true
    → le (add f (fin s m e) (fin u b j)) (add f (fin t n d) (fin u b j)) ≡ true
add_fin f u b j s m e t n d h =
    let P = m * up e * down d * down j in
    let Q = n * up d * down e * down j in
    let B = b * up j * (down e * down d) in
    let c : 0 < down e * down d * down j = mul-pos (mul-pos (down_pos e) (down_pos d)) (down_pos j) in
    let y : HasValue (fin u b j) u B (down e * down d * down j) = (refl, third (b * up j) (down e * down d) (down j)) in
    add_leq f (fin s m e) (fin u b j) (fin t n d) (fin u b j) s u t u P B Q B (down e * down d * down j) c
    (refl, over (m * up e) (down e) (down d) (down j)) y (refl, other (n * up d) (down e) (down d) (down j)) y
    (sum_leq s t u P Q B (leq_scaled s t (m * up e * down d) (n * up d * down e) (down j) (leq_of_le s m e t n d h)))
  where
    over : (x e d j : ℕ) → x * (e * d * j) ≡ x * d * j * e
    over x e d j = simp (mul_assoc, n_comm, mul_left_comm)

    other : (x e d j : ℕ) → x * (e * d * j) ≡ x * e * j * d
    other x e d j = simp (mul_assoc, n_comm, mul_left_comm)

    third : (x a j : ℕ) → x * (a * j) ≡ x * a * j
    third x a j = sym (mul_assoc x a j)

add_real : (f : Format) (u : Bool) (b : ℕ) (j : ℤ) (s : Bool) (m : ℕ) (e : ℤ) → is_nan (add f (fin s m e) (fin u b j)) ≡ false
unfolding add
add_real f u b j s m e = rw (sum_is f s (m * up e * down j) u (b * up j * down e) (down e * down j)) (round_real f _ _ _)

pub add_mono : (f : Format) (c x y : Float) → T (finite c) → le x y ≡ true → le (add f x c) (add f y c) ≡ true
add_mono f nan x y p h = absurd p
add_mono f (inf s) x y p h = absurd p
add_mono f (fin u b j) x y p h = extended (λ z. add f z (fin u b j)) (λ s. unfold add in refl) (add_real f u b j) (add_fin f u b j) x y h

-- ---- a sum may be turned round, so a difference from a finite value turns the order round
pub add_comm : (f : Format) (x y : Float) → add f x y ≡ add f y x
unfolding add
add_comm f nan nan = refl
add_comm f nan (inf true) = refl
add_comm f nan (inf false) = refl
add_comm f nan (fin t n d) = refl
add_comm f (inf true) nan = refl
add_comm f (inf true) (inf true) = refl
add_comm f (inf true) (inf false) = refl
add_comm f (inf true) (fin t n d) = refl
add_comm f (inf false) nan = refl
add_comm f (inf false) (inf true) = refl
add_comm f (inf false) (inf false) = refl
add_comm f (inf false) (fin t n d) = refl
add_comm f (fin s m e) nan = refl
add_comm f (fin s m e) (inf true) = refl
add_comm f (fin s m e) (inf false) = refl
add_comm f (fin s m e) (fin t n d) =
    let a = m * up e * down d in
    let b = n * up d * down e in
    sum_is f s a t b (down e * down d)
    ∙ ap (λ (c : ℕ). round f (sign_of s a t b) (gap s a t b) c) (n_comm (down e) (down d))
    ∙ ap₂ (λ (u : Bool) (k : ℕ). round f u k (down d * down e)) (sign_comm s t a b) (gap_comm s t a b)
    ∙ sym (sum_is f t b s a (down d * down e))

pub sub_anti : (f : Format) (c x y : Float) → T (finite c) → le x y ≡ true → le (sub f c y) (sub f c x) ≡ true
unfolding sub
sub_anti f c x y p h = rw (add_comm f c (neg y), add_comm f c (neg x)) (add_mono f c (neg y) (neg x) p (sym (neg_le x y) ∙ h))
