-- The whole part of a float below 2 ^ 23 by a sum and a difference. From 2 ^ 23 to 2 ^ 24 the floats are the whole numbers, so the sum with
-- 2 ^ 23 is the whole number below or the one above, whichever way it was rounded.
use Rattle.std.proofs.Common.{◌≡◌, ℕ, zero, suc, ◌+◌, ◌-◌, ◌*◌, ◌/◌, ◌%◌, ◌^◌, ◌<◌, ◌≤◌, min, Bool, true, false, cond, T, ◌⊎◌, ℤ, pos, negsuc, sym, refl, ap, ◌∙◌, subst, inl, inr, ⊎_elim, le_trans, mod-lt, suc-mul, add-mul, mul-le-mul_left, pow-suc, div-add-mod', mul-one, arith, lit<, le→leb, pow_pos, le-ltb}
use mathlib.Core.Logic.{dite}
use native.Mathlib.Decide.{dec_lt}
use lib.Ieee.{Float, nan, inf, fin, binary32, up, down, round, sum, lt, le, fits, of_bits, of_int, to_unsigned, add, sub, is_nan, in_float}
use lib.Ieee.Fits.{down_pos, round-fits}
use lib.Ieee.Exact.{HasValue}
use lib.Ieee.Back.{round_whole, whole_unique, unsigned_back}
use lib.Ieee.Order.{le_of_values, round_mono}
use lib.Ieee.Positive.{positive, positive_of_value, between, values_of_le}
use Rattle.floats.specs.Arithmetic.{◌⊕◌, ◌⊖◌, whole, f0, f1, f2^23}
use lib.Ieee.Bits.{is_true}
use Rattle.floats.proofs.Tests.{so, clash}
use Rattle.floats.proofs.Order.{not_of_le, lt_of_not}
use Rattle.floats.proofs.Casts.{cast_mono}
use Rattle.floats.proofs.Signs.{zero_exp, under_zero}
use Rattle.floats.proofs.Monotone.{round_real}
use Rattle.floats.proofs.ExactResult.{add_at, sub_at}
use Rattle.floats.proofs.WholePart.{digits, size_cut}

abbrev W : ℕ → Float
W n = round binary32 false n 1

valued : (n : ℕ) → n ≤ 2 ^ 24 → HasValue (W n) false n 1
valued n h = round_whole binary32 false n h

cast_back : (n : ℕ) → n ≤ 2 ^ 24 → to_unsigned 64 (W n) ≡ n
unfolding of_int in_float
cast_back n h = (unsigned_back binary32 64 n (le→leb n (2 ^ 24) h) (omega arith)).1

-- ---- no float lies between two whole numbers from 2 ^ 23 up
one_of : (v N : ℕ) → N * 1 ≤ v * 1 → v * 1 ≤ suc N * 1 → (v * 1 ≡ N * 1) ⊎ (v * 1 ≡ suc N * 1)
one_of v N h k = dite (dec_lt (v * 1) (suc N * 1)) (λ l. inl (omega arith)) (λ l. inr (omega arith))

module _ (N : ℕ) (l : 2 ^ 23 ≤ N) (h : N < 2 ^ 24) where
  low : HasValue (W N) false N 1
  low = valued N (omega arith)

  high : HasValue (W (suc N)) false (suc N) 1
  high = valued (suc N) (omega arith)

  low_pos : T (positive (W N))
  low_pos = positive_of_value (W N) N 1 low (omega arith)

  high_pos : T (positive (W (suc N)))
  high_pos = positive_of_value (W (suc N)) (suc N) 1 high (omega arith)

  held : (S : Float) → T (fits binary32 S) → T (positive S) → T (le (W N) S) → T (le S (W (suc N))) → (S ≡ W N) ⊎ (S ≡ W (suc N))
  held nan f p u v = absurd p
  held (inf s) f p u v = absurd p
  held (fin true m e) f p u v = absurd p
  held (fin false m (pos k)) f p u v =
      ⊎_elim
      (λ e. inl (whole_unique binary32 (fin false m (pos k)) (W N) false N f (round-fits binary32 false N 1) (refl, e) low))
      (λ e. inr (whole_unique binary32 (fin false m (pos k)) (W (suc N)) false (suc N) f (round-fits binary32 false (suc N) 1) (refl, e) high))
      (one_of (m * 2 ^ k) N
      (values_of_le (W N) (fin false m (pos k)) N 1 (m * 2 ^ k) 1 low_pos p low (refl, refl) u)
      (values_of_le (fin false m (pos k)) (W (suc N)) (m * 2 ^ k) 1 (suc N) 1 p high_pos (refl, refl) high v))
  held (fin false m (negsuc k)) f p u v =
      absurd (short N m (2 ^ k) l (digits false m (negsuc k) f) (pow_pos k)
      (subst (λ (n : ℕ). N * n ≤ m * 1 * 1) (pow-suc 2 k) (values_of_le (W N) (fin false m (negsuc k)) N 1 (m * 1) (2 ^ suc k) low_pos p low (refl, refl) u)))
    where
      short : (N m p : ℕ) → 2 ^ 23 ≤ N → m < 2 ^ 24 → 0 < p → N * (p * 2) ≤ m * 1 * 1 → ⊥
      short N m p l h q k = let g : N * 2 ≤ m * 1 * 1 = le_trans (mul-le-mul_left N (omega arith)) k in omega arith

  near : (v d : ℕ) → 0 < d → N * d ≤ v → v ≤ N * d + d → (round binary32 false v d ≡ W N) ⊎ (round binary32 false v d ≡ W (suc N))
  near v d D a b =
      let u : T (le (W N) (round binary32 false v d)) = round_mono binary32 N 1 v d (lit< tt) D (omega arith) in
      let k : T (le (round binary32 false v d) (W (suc N))) =
      round_mono binary32 v d (suc N) 1 D (lit< tt) (subst (λ (n : ℕ). v * 1 ≤ n) (sym (suc-mul N d)) (omega arith)) in
      held (round binary32 false v d) (round-fits binary32 false v d) (between (W N) (round binary32 false v d) (W (suc N)) low_pos high_pos u k) u k

-- ---- whole numbers taken from whole numbers
taken : (M b : ℕ) (B : Float) → b ≤ M → M ≤ 2 ^ 24 → HasValue B false b 1 → W M ⊖ B ≡ W (M - b)
unfolding sum
taken M b B l h p = sub_at binary32 (W M) B false false M b 1 (lit< tt) (valued M h) p ∙ rw (le-ltb M b l) refl

-- ---- the whole part
abbrev near_of : Float → Float
near_of y = y ⊕ f2^23 ⊖ f2^23

module _ (m : ℕ) (e : ℤ) (q : ℕ) (is : to_unsigned 64 (fin false m e) ≡ q) (cut : m * up e / down e ≡ q) (few : q < 2 ^ 23) where
  abbrev y : Float
  y = fin false m e

  parts : q * down e + m * up e % down e ≡ m * up e
  parts = subst (λ (n : ℕ). n * down e + m * up e % down e ≡ m * up e) cut (div-add-mod' (m * up e) (down e))

  summed : y ⊕ f2^23 ≡ round binary32 false (m * up e + 2 ^ 23 * down e) (down e)
  unfolding of_bits sum
  summed = add_at binary32 (fin false m e) f2^23 false false (m * up e) (2 ^ 23 * down e) (down e) (down_pos e) (refl, refl) (refl, sym (mul-one _))

  below_y : near_of y ≡ W q → near_of y ⊖ cond (lt y (near_of y)) f1 f0 ≡ W q
  below_y h =
      let under : lt y (W q) ≡ false =
      not_of_le (W q) y (is_true _ (le_of_values (W q) y q 1 (m * up e) (down e) (lit< tt) (down_pos e) (valued q (omega arith)) (refl, refl) (omega (arith, parts)))) in
      rw (h, under) (taken q 0 f0 (omega arith) (omega arith) (unfold of_bits in (refl, refl)) ∙ ap W (omega arith))

  above_y : near_of y ≡ W (suc q) → near_of y ⊖ cond (lt y (near_of y)) f1 f0 ≡ W q
  above_y h =
      rw (h, over) (taken (suc q) 1 f1 (omega arith) (omega arith) (unfold of_bits in (refl, refl)) ∙ ap W (omega arith))
    where
      late : (t : Bool) → le (W (suc q)) y ≡ t → t ≡ false
      late true g = absurd (omega (arith, cast_back (suc q) (omega arith), is, cast_mono 64 (W (suc q)) y g))
      late false g = refl

      over : lt y (W (suc q)) ≡ true
      over = lt_of_not y (W (suc q)) (unfold is_nan in refl) (round_real binary32 false (suc q) 1) (late (le (W (suc q)) y) refl)

  either_y : near_of y ⊖ cond (lt y (near_of y)) f1 f0 ≡ W q
  either_y =
      let d = down e in
      let a = m * up e in
      let r = fit (2 ^ 23 * d) (q * d) (a % d) d a ((2 ^ 23 + q) * d) (add-mul (2 ^ 23) q d) parts (mod-lt a (down_pos e)) in
      ⊎_elim
      (λ g. below_y (ap (λ (x : Float). x ⊖ f2^23) (summed ∙ g)
      ∙ taken (2 ^ 23 + q) (2 ^ 23) f2^23 (omega arith) (omega arith) (unfold of_bits in (refl, refl)) ∙ ap W (omega arith)))
      (λ g. above_y (ap (λ (x : Float). x ⊖ f2^23) (summed ∙ g)
      ∙ taken (suc (2 ^ 23 + q)) (2 ^ 23) f2^23 (omega arith) (omega arith) (unfold of_bits in (refl, refl)) ∙ ap W (omega arith)))
      (near (2 ^ 23 + q) (omega arith) (omega arith) (a + 2 ^ 23 * d) d (down_pos e) r.0 r.1)
    where
      fit : (P Q r d a n : ℕ) → n ≡ P + Q → Q + r ≡ a → r < d → (n ≤ a + P) × (a + P ≤ n + d)
      fit P Q r d a n h k l = (omega arith, omega arith)

pub whole_part_is : (y : Float) → fits binary32 y ≡ true → le f0 y ≡ true → lt y f2^23 ≡ true → near_of y ⊖ cond (lt y (near_of y)) f1 f0 ≡ whole (to_unsigned 64 y)
unfolding of_int to_unsigned
whole_part_is nan p l h = clash h (unfold lt in refl)
whole_part_is (inf true) p l h = clash l (unfold le of_bits in refl)
whole_part_is (inf false) p l h = clash h (unfold lt of_bits in refl)
whole_part_is (fin true zero e) p l h = at_zero e (zero_exp e (unfold fits in so p))
  where
    at_zero : (e : ℤ) → e ≡ pos 0 → near_of (fin true 0 e) ⊖ cond (lt (fin true 0 e) (near_of (fin true 0 e))) f1 f0 ≡ W (to_unsigned 64 (fin true 0 e))
    at_zero e g = rw g (unfold lt add sub of_bits to_unsigned in refl)
whole_part_is (fin true (suc m) e) p l h = clash (under_zero m e) (not_of_le f0 (fin true (suc m) e) l)
whole_part_is (fin false m e) p l h = go (m * up e / down e) refl (size_cut (fin false m e) h)
  where
    uncap : (q : ℕ) → min q (2 ^ 64 - 1) < 2 ^ 23 → (min q (2 ^ 64 - 1) ≡ q) × (q < 2 ^ 23)
    uncap q h = (omega arith, omega arith)

    go : (q : ℕ) → m * up e / down e ≡ q → min (m * up e / down e) (2 ^ 64 - 1) < 2 ^ 23
        → near_of (fin false m e) ⊖ cond (lt (fin false m e) (near_of (fin false m e))) f1 f0 ≡ W (min (m * up e / down e) (2 ^ 64 - 1))
    go q g k = let u = uncap (m * up e / down e) k in either_y m e q (u.0 ∙ g) g (subst (λ (n : ℕ). n < 2 ^ 23) g u.1) ∙ ap W (sym g ∙ sym u.0)
