-- The whole part of a float with its sign put back; from 2 ^ 23 on every value is whole.
use Rattle.std.proofs.Common.{◌≡◌, ℕ, zero, suc, ◌-◌, ◌*◌, ◌/◌, ◌%◌, ◌^◌, ◌<◌, ◌≤◌, min, Bool, true, false, cond, not, ◌&&◌, T, eqb, ltb, leb, ◌⊎◌, ℤ, pos, negsuc, sym, refl, ap, ◌∙◌, subst, inl, inr, mul-pos, pow-suc, mul-one, div-one, arith, lit<, le→leb, ltb→lt, pow_pos, ltb-true, lt-ltb, ne_eqb, leb-false}
use native.Mathlib.Nat.{div-eq_of_lt}
use lib.Ieee.{Float, nan, inf, fin, binary32, emax, low, up, down, round, lt, le, eq, ne, neg, is_nan, fits, of_bits, of_int, in_float, to_unsigned}
use lib.Ieee.Fits.{up_pos, round-fits, and_l, and_r}
use lib.Ieee.Back.{round_whole, whole_unique}
use Rattle.floats.specs.Arithmetic.{whole, bits, f0, f1, f2^23}
use Rattle.floats.specs.Helpers.{abs_of, lane_min, trunc_of, byte_of, byte_up_to7}
use Rattle.floats.proofs.Tests.{so, clash}
use Rattle.floats.proofs.Order.{lt_trans, lt_left, lt_right, le_is, le_of_lt, le_of_not, lt_le_trans}
use Rattle.floats.proofs.Signs.{round_mirror, zero_exp, under_zero, over_zero, above_zero}
use Rattle.floats.proofs.Casts.{byte_of_mono, threshold}

-- ---- the whole part, rounded with the sign
whole_part : (s : Bool) (m : ℕ) (e : ℤ) → T (fits binary32 (fin s m e)) → m * up e / down e ≤ 2 ^ 24 → round binary32 s (m * up e / down e) 1 ≡ trunc_of (fin s m e)
whole_part s m (pos k) p h =
    let q : m * 2 ^ k / 1 ≡ m * 2 ^ k = div-one (m * 2 ^ k) in
    whole_unique binary32 (round binary32 s (m * 2 ^ k / 1) 1) (fin s m (pos k)) s (m * 2 ^ k / 1) (round-fits binary32 s (m * 2 ^ k / 1) 1) p (round_whole binary32 s (m * 2 ^ k / 1) h)
    (refl, ap (λ (n : ℕ). n * 1) (sym q))
whole_part s m (negsuc k) p h = ap (λ (n : ℕ). round binary32 s (n / 2 ^ suc k) 1) (mul-one m)

-- ---- below 2 ^ 23
pub size_cut : (x : Float) → lt (abs_of x) f2^23 ≡ true → to_unsigned 64 (abs_of x) < 2 ^ 23
unfolding of_bits
size_cut x h = leb-false _ _ (sym (threshold 64 1 23 (abs_of x) (lit< tt) (lit< tt)) ∙ le_is _ _ (lt_right (abs_of x) f2^23 h) (lt_left (abs_of x) f2^23 h) ∙ ap not h)

-- the code's integer, as a float again
abbrev cut : Float → Float
cut x = of_int binary32 (pos (to_unsigned 64 (abs_of x)))

cut_is : (s : Bool) (m : ℕ) (e : ℤ) → lt (abs_of (fin s m e)) f2^23 ≡ true → (cut (fin s m e) ≡ round binary32 false (m * up e / down e) 1) × (m * up e / down e ≤ 2 ^ 24)
unfolding of_int to_unsigned
cut_is s m e h =
    let b : min (m * up e / down e) (2 ^ 64 - 1) < 2 ^ 23 = size_cut (fin s m e) h in
    let u : min (m * up e / down e) (2 ^ 64 - 1) ≡ m * up e / down e = uncap (m * up e / down e) b in
    (ap (λ (n : ℕ). round binary32 false n 1) u, few (m * up e / down e) (min (m * up e / down e) (2 ^ 64 - 1)) u b)
  where
    uncap : (q : ℕ) → min q (2 ^ 64 - 1) < 2 ^ 23 → min q (2 ^ 64 - 1) ≡ q
    uncap q h = omega arith

    few : (q n : ℕ) → n ≡ q → n < 2 ^ 23 → q ≤ 2 ^ 24
    few q n e h = omega arith

pub whole_in : (n : ℕ) → n < 2 ^ 23 → T (in_float binary32 (pos n))
unfolding in_float
whole_in n h = le→leb n (2 ^ 24) (omega arith)

-- ---- from 2 ^ 23 on
pub digits : (s : Bool) (m : ℕ) (e : ℤ) → T (fits binary32 (fin s m e)) → m < 2 ^ 24
unfolding fits
digits s zero e p = lit< tt
digits s (suc m) e p =
    ltb→lt (suc m) (2 ^ 24) (and_r (eqb (suc m % 2) 1) (ltb (suc m) (2 ^ 24))
    (and_l (eqb (suc m % 2) 1 && ltb (suc m) (2 ^ 24)) (leb (down e) (2 ^ low binary32))
    (and_l (eqb (suc m % 2) 1 && ltb (suc m) (2 ^ 24) && leb (down e) (2 ^ low binary32)) (ltb (suc m * up e) (2 ^ suc (emax binary32) * down e)) p)))

short : (m k : ℕ) → m < 2 ^ 24 → lt (fin false m (negsuc k)) f2^23 ≡ true
unfolding lt of_bits
short m k h = lt-ltb (m * 1 * 1) (1 * 2 ^ 23 * 2 ^ suc k) (subst (λ (n : ℕ). m * 1 * 1 < 1 * 2 ^ 23 * n) (sym (pow-suc 2 k)) (wide m (2 ^ k) h (pow_pos k)))
  where
    wide : (m p : ℕ) → m < 2 ^ 24 → 0 < p → m * 1 * 1 < 1 * 2 ^ 23 * (p * 2)
    wide m p h k = omega arith

pub trunc_large : (x : Float) → fits binary32 x ≡ true → lt (abs_of x) f2^23 ≡ false → x ≡ trunc_of x
trunc_large nan p h = refl
trunc_large (inf s) p h = refl
trunc_large (fin s m (pos k)) p h = refl
trunc_large (fin s m (negsuc k)) p h = clash (short m k (digits s m (negsuc k) (so p))) h

-- ---- the code's two tests
-- what `whole_part` promises of its answer r
abbrev Whole : Float → Float → Type 0
Whole x r = le f0 x ≡ true → lt x f2^23 ≡ true → r ≡ whole (to_unsigned 64 x)

abbrev Trunc : Float → Float → Float → Type 0
Trunc x r t = cond (ne x f0 && lt (neg f2^23) x && lt x f2^23) (cond (lt x f0) (neg r) t) x ≡ trunc_of x

under_ne : (m : ℕ) (e : ℤ) → ne (fin true (suc m) e) f0 ≡ true
unfolding ne eq of_bits
under_ne m e = ap (λ (b : Bool). not (b && eqb (suc m * up e * 1) 0)) (ne_eqb (suc m * up e * 1) (0 * down e) (other (suc m * up e) (down e) (mul-pos (omega arith) (up_pos e))))
  where
    other : (a d : ℕ) → 0 < a → a * 1 ≡ 0 * d → ⊥
    other a d h e = omega arith

over_ne : (m : ℕ) (e : ℤ) → ne (fin false (suc m) e) f0 ≡ true
unfolding ne
over_ne m e = ap not (over_zero m e).1

pub trunc_is : (x r t : Float) → fits binary32 x ≡ true → Whole (neg x) r → Whole x t → Trunc x r t
trunc_is nan r t p h k = unfold ne eq lt neg of_bits in refl
trunc_is (inf true) r t p h k = unfold ne eq lt neg of_bits in refl
trunc_is (inf false) r t p h k = unfold ne eq lt neg of_bits in refl
trunc_is (fin s zero e) r t p h k = at_zero s e (zero_exp e (unfold fits in so p))
  where
    plain : (s : Bool) → Trunc (fin s 0 (pos 0)) r t
    plain true = unfold ne eq lt neg of_bits in refl
    plain false = unfold ne eq lt neg of_bits in refl

    at_zero : (s : Bool) (e : ℤ) → e ≡ pos 0 → Trunc (fin s 0 e) r t
    at_zero s e h = rw h (plain s)
trunc_is (fin true (suc m) e) r t p h k =
    let x = fin true (suc m) e in
    rw (under_ne m e, under_zero m e, lt_trans x f0 f2^23 (under_zero m e) (unfold lt of_bits in refl)) (go (lt (neg f2^23) x) refl)
  where
    positive : Whole (fin false (suc m) e) r
    positive = unfold neg in h

    small : (b : Bool) → lt (neg f2^23) (fin true (suc m) e) ≡ b → lt (fin false (suc m) e) f2^23 ≡ b
    small b g = unfold lt neg of_bits in g

    go : (b : Bool) → lt (neg f2^23) (fin true (suc m) e) ≡ b → cond (true && b && true) (neg r) (fin true (suc m) e) ≡ trunc_of (fin true (suc m) e)
    go true g =
        let c = cut_is true (suc m) e (small true g) in
        ap neg (positive (above_zero m e) (small true g) ∙ c.0) ∙ sym (round_mirror binary32 (suc m * up e / down e) 1) ∙ whole_part true (suc m) e (so p) c.1
    go false g = trunc_large (fin true (suc m) e) p (small false g)
trunc_is (fin false (suc m) e) r t p h k =
    rw (over_ne m e, (over_zero m e).0, lt_le_trans (neg f2^23) f0 (fin false (suc m) e) (unfold lt neg of_bits in refl) (above_zero m e)) (go (lt (fin false (suc m) e) f2^23) refl)
  where
    go : (b : Bool) → lt (fin false (suc m) e) f2^23 ≡ b → cond (true && true && b) t (fin false (suc m) e) ≡ trunc_of (fin false (suc m) e)
    go true g = let c = cut_is false (suc m) e g in k (above_zero m e) g ∙ c.0 ∙ whole_part false (suc m) e (so p) c.1
    go false g = trunc_large (fin false (suc m) e) p g

-- ---- above -1 the whole part is the cast, but for the sign of a zero
abbrev f7 : Float
f7 = bits 0x40e0_0000

abbrev Capped : Float → Float → Type 0
Capped x t = (t ≡ whole (byte_up_to7 x)) ⊎ ((t ≡ fin true 0 (pos 0)) × (byte_up_to7 x ≡ 0))

below : (x : Float) → fits binary32 x ≡ true → lt (neg f1) x ≡ true → lt x f7 ≡ true → Capped x (trunc_of x)
below nan p h g = clash g (unfold lt in refl)
below (inf true) p h g = clash h (unfold lt neg of_bits in refl)
below (inf false) p h g = clash g (unfold lt of_bits in refl)
below (fin true zero (pos k)) p h g = inr (at_zero (pos k) (zero_exp (pos k) (unfold fits in so p)), unfold to_unsigned in refl)
  where
    at_zero : (e : ℤ) → e ≡ pos 0 → fin true 0 e ≡ fin true 0 (pos 0)
    at_zero e h = ap (fin true 0) h
below (fin true (suc m) (pos k)) p h g =
    let l : 0 < suc m * 2 ^ k = mul-pos (omega arith) (pow_pos k) in
    absurd (omega (arith, ltb-true (suc m * 2 ^ k * 1) 1 (unfold lt neg of_bits in h)))
below (fin true m (negsuc k)) p h g =
    let l : m < 2 ^ suc k = less m (2 ^ suc k) (ltb-true (m * 1 * 1) (1 * 1 * 2 ^ suc k) (unfold lt neg of_bits in h)) in
    inr (ap (λ (n : ℕ). round binary32 true n 1) (div-eq_of_lt l) ∙ (unfold round in refl), unfold to_unsigned in refl)
  where
    less : (m d : ℕ) → m * 1 * 1 < 1 * 1 * d → m < d
    less m d h = omega arith
below (fin false m e) p h g =
    let c : byte_of (fin false m e) ≤ 7 = unfold to_unsigned of_bits in byte_of_mono (fin false m e) f7 (le_of_lt (fin false m e) f7 g) in
    let q : m * up e / down e ≤ 7 = few (m * up e / down e) (unfold to_unsigned in c) in
    inl (sym (whole_part false m e (so p) (omega arith)) ∙ (unfold of_int to_unsigned in ap (λ (n : ℕ). round binary32 false n 1) (kept (m * up e / down e) q)))
  where
    few : (n : ℕ) → min n 255 ≤ 7 → n ≤ 7
    few n h = omega arith

    kept : (n : ℕ) → n ≤ 7 → n ≡ min (min n 255) 7
    kept n h = omega arith

pub trunc_capped : (x : Float) → fits binary32 x ≡ true → lt (neg f1) x ≡ true → Capped x (trunc_of (lane_min x f7))
trunc_capped x p h = go (lt x f7) refl
  where
    at_7 : lt x f7 ≡ false → 7 ≤ byte_of x
    at_7 g = unfold to_unsigned of_bits in byte_of_mono f7 x (le_of_not f7 x (unfold is_nan of_bits in refl) (lt_right (neg f1) x h) g)

    full : (n : ℕ) → 7 ≤ n → min n 7 ≡ 7
    full n k = omega arith

    go : (t : Bool) → lt x f7 ≡ t → Capped x (trunc_of (cond t x f7))
    go false g = inl (unfold of_bits of_int in ap whole (sym (full (byte_of x) (at_7 g))))
    go true g = below x p h g
