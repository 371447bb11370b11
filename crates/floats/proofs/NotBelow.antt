-- Not below, `lt x y ≡ false`, as a test gives it with a NaN on either side: sums of what is not negative keep it, and a sample that lies
-- beyond an end is at least as far from all that the end holds back as from the end itself.
use Rattle.std.proofs.Common.{◌≡◌, ℕ, Bool, true, false, T, ℤ, sym, refl, ◌∙◌, subst}
use lib.Ieee.{Float, nan, inf, fin, binary32, neg, add, sub, mul, lt, le, is_nan, of_bits}
use lib.Ieee.Scale.{finite}
use Rattle.floats.specs.Arithmetic.{◌⊕◌, ◌⊖◌, squared, f0}
use Rattle.floats.proofs.Tests.{clash}
use Rattle.floats.proofs.Order.{lt_le_trans, le_lt_trans, le_trans, le_of_not, not_of_le}
use Rattle.floats.proofs.Signs.{neg_le}
use Rattle.floats.proofs.Monotone.{add_mono, add_comm}
use Rattle.floats.proofs.Squares.{Plain, plain_not_below, square_mono}

-- ---- nothing is below a NaN, and infinity is below nothing
under_nan : (x : Float) → lt x nan ≡ false
unfolding lt
under_nan nan = refl
under_nan (inf s) = refl
under_nan (fin s m e) = refl

over_all : (y : Float) → lt (inf false) y ≡ false
unfolding lt
over_all nan = refl
over_all (inf true) = refl
over_all (inf false) = refl
over_all (fin s m e) = refl

below_top : (m : ℕ) (e : ℤ) → lt (fin false m e) (inf false) ≡ true
unfolding lt
below_top m e = refl

-- ---- sums
add_finite : (x y z w : Float) → T (finite x) → T (finite w) → le y x ≡ true → le w z ≡ true → lt (x ⊕ z) (y ⊕ w) ≡ false
add_finite x y z w p q h k =
    not_of_le (y ⊕ w) (x ⊕ z)
    (le_trans (y ⊕ w) (x ⊕ w) (x ⊕ z) (add_mono binary32 w y x q h) (rw (add_comm binary32 x w, add_comm binary32 x z) (add_mono binary32 x w z p k)))

pub add_not_below : (x y z w : Float) → Plain x → Plain y → Plain z → Plain w → lt x y ≡ false → lt z w ≡ false → lt (x ⊕ z) (y ⊕ w) ≡ false
add_not_below nan y z w X Y Z W h k = unfold add lt in refl
add_not_below (inf true) y z w X Y Z W h k = clash refl X
add_not_below (inf false) y nan w X Y Z W h k = unfold add lt in refl
add_not_below (inf false) y (inf true) w X Y Z W h k = clash refl Z
add_not_below (inf false) y (inf false) w X Y Z W h k = unfold add in over_all (y ⊕ w)
add_not_below (inf false) y (fin u o f) w X Y Z W h k = unfold add in over_all (y ⊕ w)
add_not_below (fin true m e) y z w X Y Z W h k = clash refl X
add_not_below (fin false m e) y nan w X Y Z W h k = unfold add lt in refl
add_not_below (fin false m e) y (inf true) w X Y Z W h k = clash refl Z
add_not_below (fin false m e) y (inf false) w X Y Z W h k = unfold add in over_all (y ⊕ w)
add_not_below (fin false m e) y (fin true o f) w X Y Z W h k = clash refl Z
add_not_below (fin false m e) nan (fin false o f) w X Y Z W h k = unfold add in under_nan (fin false m e ⊕ fin false o f)
add_not_below (fin false m e) (inf true) (fin false o f) w X Y Z W h k = clash refl Y
add_not_below (fin false m e) (inf false) (fin false o f) w X Y Z W h k = clash (below_top m e) h
add_not_below (fin false m e) (fin t n d) (fin false o f) nan X Y Z W h k = unfold add in under_nan (fin false m e ⊕ fin false o f)
add_not_below (fin false m e) (fin t n d) (fin false o f) (inf true) X Y Z W h k = clash refl W
add_not_below (fin false m e) (fin t n d) (fin false o f) (inf false) X Y Z W h k = clash (below_top o f) k
add_not_below (fin false m e) (fin t n d) (fin false o f) (fin u r g) X Y Z W h k =
    add_finite (fin false m e) (fin t n d) (fin false o f) (fin u r g) tt tt
    (le_of_not (fin t n d) (fin false m e) (unfold is_nan in refl) (unfold is_nan in refl) h)
    (le_of_not (fin u r g) (fin false o f) (unfold is_nan in refl) (unfold is_nan in refl) k)

-- ---- squares, on either side of 0
square_neg : (x : Float) → squared (neg x) ≡ squared x
unfolding mul neg
square_neg nan = refl
square_neg (inf true) = refl
square_neg (inf false) = refl
square_neg (fin true m e) = refl
square_neg (fin false m e) = refl

above_plain : (x : Float) → lt f0 x ≡ true → Plain x
above_plain nan h = clash h (unfold lt of_bits in refl)
above_plain (inf true) h = clash h (unfold lt of_bits in refl)
above_plain (inf false) h = refl
above_plain (fin true m e) h = clash h (unfold lt of_bits in refl)
above_plain (fin false m e) h = refl

below_plain : (x : Float) → lt x f0 ≡ true → Plain (neg x)
unfolding neg
below_plain nan h = tt
below_plain (inf true) h = refl
below_plain (inf false) h = clash h (plain_not_below (inf false) refl)
below_plain (fin true m e) h = refl
below_plain (fin false m e) h = clash h (plain_not_below (fin false m e) refl)

square_above : (d x : Float) → lt f0 d ≡ true → le d x ≡ true → lt (squared x) (squared d) ≡ false
square_above d x h k = not_of_le (squared d) (squared x) (square_mono d x (above_plain d h) (above_plain x (lt_le_trans f0 d x h k)) k)

square_below : (d x : Float) → lt d f0 ≡ true → le x d ≡ true → lt (squared x) (squared d) ≡ false
square_below d x h k =
    subst (λ (z : Float). lt (squared x) z ≡ false) (square_neg d)
    (subst (λ (z : Float). lt z (squared (neg d)) ≡ false) (square_neg x)
    (not_of_le (squared (neg d)) (squared (neg x))
    (square_mono (neg d) (neg x) (below_plain d h) (below_plain x (le_lt_trans x d f0 k h)) (sym (neg_le x d) ∙ k))))

-- ---- the squared distance of p from v, and from an end
-- from a p that is not finite it is infinite or a NaN
far : (v y : Float) (s : Bool) → lt (squared (v ⊖ inf s)) y ≡ false
unfolding sub add neg mul
far nan y s = unfold lt in refl
far (inf true) y true = unfold lt in refl
far (inf true) y false = over_all y
far (inf false) y true = over_all y
far (inf false) y false = unfold lt in refl
far (fin t n d) y true = over_all y
far (fin t n d) y false = over_all y

off_nan : (v y : Float) → lt (squared (v ⊖ nan)) y ≡ false
unfolding sub add neg mul lt
off_nan nan y = refl
off_nan (inf s) y = refl
off_nan (fin s m e) y = refl

pub beyond_low : (low v p : Float) → le low v ≡ true → lt f0 (low ⊖ p) ≡ true → lt (squared (v ⊖ p)) (squared (low ⊖ p)) ≡ false
beyond_low low v nan h k = off_nan v (squared (low ⊖ nan))
beyond_low low v (inf s) h k = far v (squared (low ⊖ inf s)) s
beyond_low low v (fin s m e) h k = square_above (low ⊖ fin s m e) (v ⊖ fin s m e) k (unfold sub neg in add_mono binary32 (neg (fin s m e)) low v tt h)

pub beyond_high : (high v p : Float) → le v high ≡ true → lt (high ⊖ p) f0 ≡ true → lt (squared (v ⊖ p)) (squared (high ⊖ p)) ≡ false
beyond_high high v nan h k = off_nan v (squared (high ⊖ nan))
beyond_high high v (inf s) h k = far v (squared (high ⊖ inf s)) s
beyond_high high v (fin s m e) h k = square_below (high ⊖ fin s m e) (v ⊖ fin s m e) k (unfold sub neg in add_mono binary32 (neg (fin s m e)) v high tt h)
