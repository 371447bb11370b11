-- Squares: the square of the least distance is the least square, bit for bit and for all floats, so that code may compare squares and take no
-- absolute values. Sums of squares are never negative.
use Rattle.std.proofs.Common.{◌≡◌, ℕ, ◌+◌, ◌*◌, ◌≤◌, Bool, true, false, cond, T, refl, ⊎_elim, le_trans, le_of_eq, mul-le-mul, le_antisymm, mul-pos, arith, le-ltb}
use native.Mathlib.Nat.{mul-mul-mul_comm}
use lib.Ieee.{Float, nan, inf, fin, binary32, up, down, round, sum, add, mul, lt, le, fits, is_nan, of_bits}
use lib.Ieee.Bits.{is_true}
use lib.Ieee.Fits.{down_pos, mul-fits}
use lib.Ieee.Order.{round_mono}
use Rattle.floats.specs.Arithmetic.{◌⊕◌, squared, f0}
use Rattle.floats.specs.Helpers.{abs_of, lane_min}
use Rattle.floats.proofs.Tests.{clash, either}
use Rattle.floats.proofs.Order.{lt_asym, le_left, le_right, le_of_lt, le_of_not, not_of_le, is_nan_lem}
use Rattle.floats.proofs.Casts.{plain_le}
use Rattle.floats.proofs.Signs.{SignedBy, round_signed}
use Rattle.floats.proofs.Monotone.{to_top, round_real}
use Rattle.floats.proofs.Exactly.{fraction_unique}

-- ---- the sign is clear, or x is a NaN
abbrev pub Plain : Float → Type 0
Plain nan = T true
Plain (inf s) = s ≡ false
Plain (fin s m e) = s ≡ false

pub abs_plain : (x : Float) → Plain (abs_of x)
abs_plain nan = tt
abs_plain (inf s) = refl
abs_plain (fin s m e) = refl

pub plain_not_below : (x : Float) → Plain x → lt x f0 ≡ false
plain_not_below nan p = unfold lt in refl
plain_not_below (inf true) p = clash refl p
plain_not_below (inf false) p = unfold lt of_bits in refl
plain_not_below (fin true m e) p = clash refl p
plain_not_below (fin false m e) p = unfold lt of_bits in le-ltb (m * up e * 1) (0 * down e) (none (m * up e) (down e))
  where
    none : (a d : ℕ) → 0 * d ≤ a * 1
    none a d = omega arith

plain_of_signed : (x : Float) → SignedBy false x → Plain x
plain_of_signed nan h = absurd h
plain_of_signed (inf s) h = h
plain_of_signed (fin s m e) h = h

pub squared_plain : (x : Float) → Plain (squared x)
unfolding mul
squared_plain nan = tt
squared_plain (inf true) = refl
squared_plain (inf false) = refl
squared_plain (fin true m e) = plain_of_signed (round binary32 false (m * up e * (m * up e)) (down e * down e)) (round_signed binary32 false (m * up e * (m * up e)) (down e * down e))
squared_plain (fin false m e) = plain_of_signed (round binary32 false (m * up e * (m * up e)) (down e * down e)) (round_signed binary32 false (m * up e * (m * up e)) (down e * down e))

pub add_plain : (x y : Float) → Plain x → Plain y → Plain (x ⊕ y)
unfolding add sum
add_plain nan y p q = tt
add_plain (inf true) y p q = clash refl p
add_plain (inf false) nan p q = tt
add_plain (inf false) (inf true) p q = clash refl q
add_plain (inf false) (inf false) p q = refl
add_plain (inf false) (fin t n d) p q = refl
add_plain (fin true m e) y p q = clash refl p
add_plain (fin false m e) nan p q = tt
add_plain (fin false m e) (inf t) p q = q
add_plain (fin false m e) (fin true n d) p q = clash refl q
add_plain (fin false m e) (fin false n d) p q = plain_of_signed (round binary32 false (m * up e * down d + n * up d * down e) (down e * down d)) (round_signed binary32 false (m * up e * down d + n * up d * down e) (down e * down d))

-- ---- the sign of a factor that stands twice does not show
pub square_abs : (x : Float) → squared (abs_of x) ≡ squared x
unfolding mul
square_abs nan = refl
square_abs (inf true) = refl
square_abs (inf false) = refl
square_abs (fin true m e) = refl
square_abs (fin false m e) = refl

-- ---- squares keep the order of what is not negative
pub square_mono : (x y : Float) → Plain x → Plain y → le x y ≡ true → le (squared x) (squared y) ≡ true
unfolding mul
square_mono nan y p q h = clash h (unfold le in refl)
square_mono (inf true) y p q h = clash refl p
square_mono (inf false) nan p q h = clash h (unfold le in refl)
square_mono (inf false) (inf true) p q h = clash refl q
square_mono (inf false) (inf false) p q h = unfold le in refl
square_mono (inf false) (fin t n d) p q h = clash h (unfold le in refl)
square_mono (fin true m e) y p q h = clash refl p
square_mono (fin false m e) nan p q h = clash h (unfold le in refl)
square_mono (fin false m e) (inf true) p q h = clash refl q
square_mono (fin false m e) (inf false) p q h = to_top _ (round_real binary32 false (m * up e * (m * up e)) (down e * down e))
square_mono (fin false m e) (fin true n d) p q h = clash refl q
square_mono (fin false m e) (fin false n d) p q h =
    let k : m * up e * down d ≤ n * up d * down e = plain_le (m * up e * down d) (n * up d * down e) (unfold le in h) in
    is_true _ (round_mono binary32 (m * up e * (m * up e)) (down e * down e) (n * up d * (n * up d)) (down d * down d) (mul-pos (down_pos e) (down_pos e)) (mul-pos (down_pos d) (down_pos d))
    (le_trans (le_of_eq (mul-mul-mul_comm (m * up e) (m * up e) (down d) (down d))) (le_trans (mul-le-mul k k) (le_of_eq (mul-mul-mul_comm (n * up d) (down e) (n * up d) (down e))))))

-- ---- two values that are not negative and at most each other are the same datum, as the format writes a number in one way
pub le_antisym : (x y : Float) → T (fits binary32 x) → T (fits binary32 y) → Plain x → Plain y → le x y ≡ true → le y x ≡ true → x ≡ y
le_antisym nan y f g p q h k = clash h (unfold le in refl)
le_antisym (inf true) y f g p q h k = clash refl p
le_antisym (inf false) nan f g p q h k = clash h (unfold le in refl)
le_antisym (inf false) (inf true) f g p q h k = clash refl q
le_antisym (inf false) (inf false) f g p q h k = refl
le_antisym (inf false) (fin t n d) f g p q h k = clash h (unfold le in refl)
le_antisym (fin true m e) y f g p q h k = clash refl p
le_antisym (fin false m e) nan f g p q h k = clash h (unfold le in refl)
le_antisym (fin false m e) (inf true) f g p q h k = clash refl q
le_antisym (fin false m e) (inf false) f g p q h k = clash k (unfold le in refl)
le_antisym (fin false m e) (fin true n d) f g p q h k = clash refl q
le_antisym (fin false m e) (fin false n d) f g p q h k =
    let a : m * up e * down d ≤ n * up d * down e = plain_le (m * up e * down d) (n * up d * down e) (unfold le in h) in
    let b : n * up d * down e ≤ m * up e * down d = plain_le (n * up d * down e) (m * up e * down d) (unfold le in k) in
    fraction_unique m e n d f g (le_antisymm a b)

-- so the smaller of two is the same from either side
pub lane_min_comm : (x y : Float) → T (fits binary32 x) → T (fits binary32 y) → Plain x → Plain y → is_nan x ≡ false → is_nan y ≡ false → lane_min x y ≡ lane_min y x
lane_min_comm x y f g p q n m = go (lt x y) refl (lt y x) refl
  where
    go : (t : Bool) → lt x y ≡ t → (u : Bool) → lt y x ≡ u → cond t x y ≡ cond u y x
    go true h true k = clash k (lt_asym x y h)
    go true h false k = refl
    go false h true k = refl
    go false h false k = le_antisym y x g f q p (le_of_not y x m n h) (le_of_not x y n m k)

-- ---- THE LAW: the square of the smaller is the smaller square
nan_square : (x : Float) → is_nan x ≡ true → squared x ≡ nan
nan_square x h = rw (is_nan_lem x h) (unfold mul in refl)

pub square_min : (x y : Float) → Plain x → Plain y → squared (lane_min x y) ≡ lane_min (squared x) (squared y)
square_min x y p q = go (lt x y) refl (lt (squared x) (squared y)) refl
  where
    go : (t : Bool) → lt x y ≡ t → (u : Bool) → lt (squared x) (squared y) ≡ u → squared (cond t x y) ≡ cond u (squared x) (squared y)
    go true e true g = refl
    go true e false g =
        let a : le (squared x) (squared y) ≡ true = square_mono x y p q (le_of_lt x y e) in
        le_antisym (squared x) (squared y) (mul-fits binary32 x x) (mul-fits binary32 y y) (squared_plain x) (squared_plain y) a
        (le_of_not (squared y) (squared x) (le_right (squared x) (squared y) a) (le_left (squared x) (squared y) a) g)
    go false e true g = ⊎_elim (λ n. clash g (rw (nan_square x n) (unfold lt in refl))) (λ n. ⊎_elim (λ m. clash g (rw (nan_square y m) (nothing_below (squared x)))) (λ m. clash g (not_of_le (squared y) (squared x) (square_mono y x q p (le_of_not y x m n e)))) (either (is_nan y))) (either (is_nan x))
      where
        nothing_below : (z : Float) → lt z nan ≡ false
        nothing_below nan = unfold lt in refl
        nothing_below (inf s) = unfold lt in refl
        nothing_below (fin s m e) = unfold lt in refl
    go false e false g = refl
