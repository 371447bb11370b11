-- Equal floats: at most each other, and in f32 the same datum, but for zeros, which have two signs.
use Rattle.std.proofs.Common.{◌≡◌, ℕ, zero, suc, ◌*◌, Bool, true, false, ◌||◌, T, eqb, ℤ, refl, ap, eqb→eq}
use mathlib.Core.Bool.{beq}
use lib.Ieee.{Float, nan, inf, fin, binary32, up, down, level, neg, lt, le, eq, fits, is_nan, of_bits}
use lib.Ieee.Bits.{is_true}
use lib.Ieee.Fits.{and_l}
use Rattle.floats.specs.Arithmetic.{f0}
use Rattle.floats.proofs.Tests.{so, clash}
use Rattle.floats.proofs.Order.{le_of_not, not_of_le, le_trans}
use Rattle.floats.proofs.Ranges.{real_0}
use Rattle.floats.proofs.Squares.{le_antisym, plain_not_below}

-- ---- equal is at most each other
beq_sym : (s t : Bool) → beq s t ≡ beq t s
beq_sym true true = refl
beq_sym true false = refl
beq_sym false true = refl
beq_sym false false = refl

level_sym : (s t : Bool) (a b : ℕ) → T (level s a t b) → T (level t b s a)
level_sym s t a b h =
    let e : a ≡ b = eqb→eq a b (and_l (eqb a b) (beq s t || eqb a 0) h) in
    rw (← e, beq_sym t s) (rw (← e) at h)

pub eq_sym : (x y : Float) → eq x y ≡ true → eq y x ≡ true
unfolding eq
eq_sym nan y h = clash h refl
eq_sym (inf s) nan h = clash h refl
eq_sym (inf s) (inf t) h = rw (beq_sym t s) h
eq_sym (inf s) (fin t n d) h = clash h refl
eq_sym (fin s m e) nan h = clash h refl
eq_sym (fin s m e) (inf t) h = clash h refl
eq_sym (fin s m e) (fin t n d) h = is_true _ (level_sym s t (m * up e * down d) (n * up d * down e) (so h))

pub le_of_eq : (x y : Float) → eq x y ≡ true → (le x y ≡ true) × (le y x ≡ true)
unfolding le
le_of_eq x y h = (one x y h, one y x (eq_sym x y h))
  where
    either_true : (t : Bool) → (t || true) ≡ true
    either_true true = refl
    either_true false = refl

    one : (x y : Float) → eq x y ≡ true → le x y ≡ true
    one x y h = rw h (either_true (lt x y))

pub eq_of_le : (x y : Float) → le x y ≡ true → le y x ≡ true → eq x y ≡ true
unfolding le
eq_of_le x y h k = rw (not_of_le y x k) at h

-- ---- off zero the same datum
fits_plain : (m : ℕ) (e : ℤ) → T (fits binary32 (fin true m e)) → T (fits binary32 (fin false m e))
unfolding fits
fits_plain zero e f = f
fits_plain (suc m) e f = f

-- without their signs two negative values are in the other order
minus_le : (m : ℕ) (e : ℤ) (n : ℕ) (d : ℤ) → le (fin true m e) (fin true n d) ≡ true → le (fin false n d) (fin false m e) ≡ true
unfolding lt is_nan
minus_le m e n d h = le_of_not (fin false n d) (fin false m e) refl refl (not_of_le (fin true m e) (fin true n d) h)

plus_from_0 : (m : ℕ) (e : ℤ) → le f0 (fin false m e) ≡ true
plus_from_0 m e = le_of_not f0 (fin false m e) real_0 (unfold is_nan in refl) (plain_not_below (fin false m e) refl)

minus_to_0 : (m : ℕ) (e : ℤ) → le (fin true m e) f0 ≡ true
minus_to_0 m e = le_of_not (fin true m e) f0 (unfold is_nan in refl) real_0 (unfold lt of_bits in refl)

pub same_off_zero : (x y : Float) → T (fits binary32 x) → T (fits binary32 y) → le x y ≡ true → le y x ≡ true → eq x f0 ≡ false → x ≡ y
same_off_zero nan y f g h k z = clash h (unfold le in refl)
same_off_zero (inf s) nan f g h k z = clash h (unfold le in refl)
same_off_zero (inf true) (inf true) f g h k z = refl
same_off_zero (inf true) (inf false) f g h k z = clash k (unfold le in refl)
same_off_zero (inf false) (inf true) f g h k z = clash h (unfold le in refl)
same_off_zero (inf false) (inf false) f g h k z = refl
same_off_zero (inf true) (fin t n d) f g h k z = clash k (unfold le in refl)
same_off_zero (inf false) (fin t n d) f g h k z = clash h (unfold le in refl)
same_off_zero (fin s m e) nan f g h k z = clash h (unfold le in refl)
same_off_zero (fin s m e) (inf true) f g h k z = clash h (unfold le in refl)
same_off_zero (fin s m e) (inf false) f g h k z = clash k (unfold le in refl)
same_off_zero (fin false m e) (fin false n d) f g h k z = le_antisym (fin false m e) (fin false n d) f g refl refl h k
same_off_zero (fin true m e) (fin true n d) f g h k z =
    unfold neg in ap neg
    (le_antisym (fin false m e) (fin false n d) (fits_plain m e f) (fits_plain n d g) refl refl (minus_le n d m e k) (minus_le m e n d h))
same_off_zero (fin false m e) (fin true n d) f g h k z =
    clash (eq_of_le (fin false m e) f0 (le_trans (fin false m e) (fin true n d) f0 h (minus_to_0 n d)) (plus_from_0 m e)) z
same_off_zero (fin true m e) (fin false n d) f g h k z =
    clash (eq_of_le (fin true m e) f0 (minus_to_0 m e) (le_trans f0 (fin false n d) (fin true m e) (plus_from_0 n d) k)) z
