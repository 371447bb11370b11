-- `x as u8` and other casts to unsigned integers: they keep the order, and x is at least a whole number k in the range exactly when its cast is.
-- So a cast is found by tests, and tests of a cast by the cast.
use Rattle.std.proofs.Common.{◌≡◌, ℕ, ◌-◌, ◌*◌, ◌/◌, ◌^◌, ◌<◌, ◌≤◌, min, Bool, true, false, cond, ◌&&◌, ◌||◌, T, eqb, ltb, leb, pos, sym, refl, ◌∙◌, subst, mul-pos, le-div_iff_mul-le, mul-one, arith, lit<, lit≤, le→leb, eqb→eq, leb→le, w32, to_z, of_z, le-leb, leb-false, leb-true}
use lib.Ieee.{Float, nan, inf, fin, up, down, lt, le, of_bits, is_nan, binary32, to_unsigned, in_float, to_signed, in_signed}
use lib.Ieee.Fits.{down_pos, and_r}
use lib.Ieee.Back.{positive_back}
use lib.Ieee.Nearest.{div_mono}
use lib.Ieee.Casts.{to_unsigned-lt}
use mir.ValLaws.{to_z-of_z}
use borrow.Author.Tests.{lt-leb}
use Rattle.floats.specs.Arithmetic.{bits, whole, f0, f1, f255, f2^23}
use Rattle.floats.specs.Helpers.{lane_min, lane_max, byte_of, byte_up_to7}
use Rattle.floats.proofs.Tests.{so, iff, clash, leb_not_ltb}
use Rattle.floats.proofs.Fractions.{le_plain}
use Rattle.floats.proofs.SignedOrder.{zero_factor}
use Rattle.floats.proofs.Order.{lt_right, le_of_not, le_of_lt, lt_trans, lt_le_trans}

-- ---- a cast keeps the order
less_min : (p q c : ℕ) → p ≤ q → min p c ≤ min q c
less_min p q c h = omega arith

zero_min : (p q c : ℕ) → p ≡ 0 → min p c ≤ q
zero_min p q c h = omega arith

at_most : (p c : ℕ) → min p c ≤ c
at_most p c = omega arith

from_zero : (n : ℕ) → 0 ≤ n
from_zero n = omega arith

pub plain_le : (a b : ℕ) → (ltb a b || (eqb a b && true)) ≡ true → a ≤ b
plain_le a b h = leb-true a b (sym (leb_not_ltb a b) ∙ sym (le_plain a b) ∙ h)

pub cast_mono : (w : ℕ) (x y : Float) → le x y ≡ true → to_unsigned w x ≤ to_unsigned w y
unfolding le lt to_unsigned
cast_mono w nan y h = clash h refl
cast_mono w (inf true) y h = from_zero _
cast_mono w (inf false) nan h = clash h refl
cast_mono w (inf false) (inf true) h = clash h refl
cast_mono w (inf false) (inf false) h = omega arith
cast_mono w (inf false) (fin t n d) h = clash h refl
cast_mono w (fin true m e) y h = from_zero _
cast_mono w (fin false m e) nan h = clash h refl
cast_mono w (fin false m e) (inf true) h = clash h refl
cast_mono w (fin false m e) (inf false) h = at_most (m * up e / down e) (2 ^ w - 1)
cast_mono w (fin false m e) (fin true n d) h =
    let z : m * up e * down d ≡ 0 = eqb→eq _ _ (and_r (eqb (m * up e * down d) (n * up d * down e)) (eqb (m * up e * down d) 0) (so h)) in
    let q : m * up e / down e ≤ 0 / 1 = div_mono (m * up e) (down e) 0 1 (down_pos e) (lit< tt) (none (m * up e) (down d) (down e) (down_pos d) z) in
    zero_min (m * up e / down e) 0 (2 ^ w - 1) (nothing _ q)
  where
    none : (a d p : ℕ) → 0 < d → a * d ≡ 0 → a * 1 ≤ 0 * p
    none a d p D z = let e : a ≡ 0 = zero_factor a d D z in omega arith

    nothing : (n : ℕ) → n ≤ 0 → n ≡ 0
    nothing n h = omega arith
cast_mono w (fin false m e) (fin false n d) h =
    less_min (m * up e / down e) (n * up d / down d) (2 ^ w - 1)
    (div_mono (m * up e) (down e) (n * up d) (down d) (down_pos e) (down_pos d) (plain_le (m * up e * down d) (n * up d * down e) h))

pub byte_of_mono : (x y : Float) → le x y ≡ true → byte_of x ≤ byte_of y
byte_of_mono x y h = cast_mono 8 x y h

pub byte_of_le : (x : Float) → byte_of x ≤ 255
byte_of_le x = let h : byte_of x < 2 ^ 8 = to_unsigned-lt 8 x in omega arith

-- ---- the test against a whole number k in the range
none : (k : ℕ) → 0 < k → false ≡ leb k 0
none k h = sym (lt-leb k 0 h)

all : (k c : ℕ) → k < c → true ≡ leb k (c - 1)
all k c h = sym (le-leb k (c - 1) (omega arith))

cap : (k q c : ℕ) → k < c → k ≤ min q (c - 1) → k ≤ q
cap k q c h g = omega arith

uncap : (k q c : ℕ) → k < c → k ≤ q → k ≤ min q (c - 1)
uncap k q c h g = omega arith

-- k ≤ X / D
cut : (w k X D : ℕ) → 0 < D → k < 2 ^ w → leb (k * D) (X * 1) ≡ leb k (min (X / D) (2 ^ w - 1))
cut w k X D d h =
    iff _ _
    (λ g. le→leb _ _ (uncap k (X / D) (2 ^ w) h ((le-div_iff_mul-le d).1 (subst (λ (n : ℕ). k * D ≤ n) (mul-one X) (leb→le _ _ g)))))
    (λ g. le→leb _ _ (subst (λ (n : ℕ). k * D ≤ n) (sym (mul-one X)) ((le-div_iff_mul-le d).0 (cap k (X / D) (2 ^ w) h (leb→le _ _ g)))))

opposite : (k D b : ℕ) → 0 < k * D → (eqb (k * D) b && eqb (k * D) 0) ≡ false
opposite k D b h = iff _ false (λ g. no (k * D) h (eqb→eq (k * D) 0 (and_r (eqb (k * D) b) (eqb (k * D) 0) g))) (λ g. absurd g)
  where
    no : (a : ℕ) → 0 < a → a ≡ 0 → ⊥
    no a h e = omega arith

-- k is the float n * 2 ^ j
pub threshold : (w n j : ℕ) (x : Float) → 0 < n * 2 ^ j → n * 2 ^ j < 2 ^ w → le (fin false n (pos j)) x ≡ leb (n * 2 ^ j) (to_unsigned w x)
unfolding le lt to_unsigned
threshold w n j nan h g = none (n * 2 ^ j) h
threshold w n j (inf true) h g = none (n * 2 ^ j) h
threshold w n j (inf false) h g = all (n * 2 ^ j) (2 ^ w) g
threshold w n j (fin true m e) h g = opposite (n * 2 ^ j) (down e) (m * up e * 1) (mul-pos h (down_pos e)) ∙ none (n * 2 ^ j) h
threshold w n j (fin false m e) h g =
    le_plain (n * 2 ^ j * down e) (m * up e * 1) ∙ leb_not_ltb (n * 2 ^ j * down e) (m * up e * 1) ∙ cut w (n * 2 ^ j) (m * up e) (down e) (down_pos e) g

at_1 : (x : Float) → le f1 x ≡ leb 1 (byte_of x)
unfolding of_bits
at_1 x = threshold 8 1 0 x (lit< tt) (lit< tt)

-- ---- the cast to a byte
at_255 : (x : Float) → le f255 x ≡ leb 255 (byte_of x)
unfolding of_bits
at_255 x = threshold 8 255 0 x (lit< tt) (lit< tt)

pub byte_full : (x : Float) → le f255 x ≡ true → 255 ≡ byte_of x
byte_full x h = let g : 255 ≤ byte_of x = leb-true _ _ (sym (at_255 x) ∙ h) in let l : byte_of x ≤ 255 = byte_of_le x in omega arith

pub byte_empty : (x : Float) → le f1 x ≡ false → 0 ≡ byte_of x
byte_empty x h = let g : byte_of x < 1 = leb-false _ _ (sym (at_1 x) ∙ h) in omega arith

byte_narrow : (x : Float) → byte_of x ≡ min (to_unsigned 64 x) 255
unfolding to_unsigned
byte_narrow nan = refl
byte_narrow (inf true) = refl
byte_narrow (inf false) = refl
byte_narrow (fin true m e) = refl
byte_narrow (fin false m e) = caps (m * up e / down e) (2 ^ 8 - 1) (2 ^ 64 - 1) (lit≤ tt)
  where
    caps : (q a b : ℕ) → a ≤ b → min q a ≡ min (min q b) a
    caps q a b h = omega arith

-- ---- the cast capped at 7, by way of a float from 0 to 7
-- 7.0
abbrev seven : Float
seven = bits 0x40e0_0000

at_7 : (x : Float) → le seven x ≡ leb 7 (byte_of x)
unfolding of_bits
at_7 x = threshold 8 7 0 x (lit< tt) (lit< tt)

abbrev UpTo7 : Float → Float → Type 0
UpTo7 x y = (le f0 y ≡ true) × (lt y f2^23 ≡ true) × (to_unsigned 64 y ≡ byte_up_to7 x)

pub kept_is : (x : Float) → UpTo7 x (lane_min (lane_max x f0) seven)
kept_is x = go (lt f0 x) refl
  where
    not_1 : (t : Bool) → le f1 x ≡ t → lt f0 x ≡ false → t ≡ false
    not_1 true g h = clash (lt_le_trans f0 f1 x (unfold lt of_bits in refl) g) h
    not_1 false g h = refl

    capped : (n : ℕ) → 7 ≤ n → 7 ≡ min n 7
    capped n h = omega arith

    none_of : (n : ℕ) → 0 ≡ n → 0 ≡ min n 7
    none_of n h = omega arith

    under : lt f0 x ≡ true → (t : Bool) → lt x seven ≡ t → UpTo7 x (cond t x seven)
    under h true g =
        let c : to_unsigned 64 x ≤ 7 = unfold to_unsigned of_bits in cast_mono 64 x seven (le_of_lt x seven g) in
        (le_of_lt f0 x h, lt_trans x seven f2^23 g (unfold lt of_bits in refl), omega (arith, byte_narrow x))
    under h false g =
        let c : 7 ≤ byte_of x = leb-true _ _ (sym (at_7 x) ∙ le_of_not seven x (unfold is_nan of_bits in refl) (lt_right f0 x h) g) in
        (unfold le lt of_bits in refl, unfold lt of_bits in refl, unfold to_unsigned of_bits in capped (byte_of x) c)

    go : (t : Bool) → lt f0 x ≡ t → UpTo7 x (lane_min (cond t x f0) seven)
    go true h = under h (lt x seven) refl
    go false h = unfold le lt to_unsigned of_bits in (refl, refl, none_of (byte_of x) (byte_empty x (not_1 (le f1 x) refl h)))

-- a whole number up to 7 as a float, cast back by way of i32
pub up_to_7_le : (x : Float) → byte_up_to7 x ≤ 7
up_to_7_le x = capped (byte_of x)
  where
    capped : (n : ℕ) → min n 7 ≤ 7
    capped n = omega arith

pub up_to_7_back : (x : Float) → T (in_signed binary32 31 (whole (byte_up_to7 x))) × (to_signed 31 (whole (byte_up_to7 x)) ≡ pos (byte_up_to7 x))
up_to_7_back x = positive_back binary32 31 (byte_up_to7 x) (few (byte_of x)) (small (byte_of x))
  where
    few : (n : ℕ) → T (in_float binary32 (pos (min n 7)))
    few n = unfold in_float in le→leb (min n 7) (2 ^ 24) (omega arith)

    small : (n : ℕ) → min n 7 < 2 ^ 31
    small n = omega arith

-- an i32 up to 7, read back from its bits
read_back : (k : ℕ) → k ≤ 7 → to_z w32 (of_z w32 (pos k)) ≡ pos k
read_back k h = to_z-of_z w32 (pos k) (record { sfits = omega arith })

pub up_to_7_read : (x : Float) → to_z w32 (of_z w32 (to_signed 31 (whole (byte_up_to7 x)))) ≡ pos (byte_up_to7 x)
up_to_7_read x = rw (up_to_7_back x).1 (read_back (byte_up_to7 x) (up_to_7_le x))
