-- Laws of a list of 3-bit indexes, and of the eight bytes that hold it.
use mathlib.Core.Path.{◌≡◌, refl, ap, ◌∙◌}
use mathlib.Core.List.{List, [], ◌∷◌}
use mathlib.Core.Logic.{dite}
use Prim.Native.Nat.{ℕ, zero, suc, ◌+◌, ◌-◌, ◌*◌, ◌/◌, ◌%◌, ◌^◌, ◌<◌, ◌≤◌}
use native.Mathlib.Nat.{add-mul-div_right, div-eq_of_lt, div-lt_iff_lt-mul, div-one, lt_of_lt_of_le, mul_assoc}
use native.Mathlib.Decide.{dec_lt}
use native.Mathlib.Omega.{arith}
use lib.Arith.{digits_lt}
use lib.ListN.{length, drop, get_or, drop_of_length-le}
use lib.Seq.{drop-cons}
use lib.Pow.{field, mod-mod-pow, mod-pow-add, pow-add, pow_mono, pow_pos, shr-shr}
use Rattle.std.specs.Int.{w32, w64, from_le_bytes}
use Rattle.index_list.specs.Indexes.{index_at, set_at, filled_to}
use Rattle.index_list.specs.Layout.{byte_at, packed, bytes_of, from_bytes}

-- setting adds v to the bits from pixel i up
from : (d i v : ℕ) → set_at d i v / 2 ^ (3 * i) ≡ d / 2 ^ (3 * i) + v
from d i v = add-mul-div_right d v (pow_pos (3 * i))

-- the bits above pixel i stay
above : (d i v m : ℕ) → v < 8 → index_at d i ≡ 0 → 3 * i + 3 ≤ m → set_at d i v / 2 ^ m ≡ d / 2 ^ m
above d i v m small unset le =
    let e : m ≡ 3 * i + 3 + (m - (3 * i + 3)) = omega arith in
    rw e (simp (← shr-shr, from) (ap (λ (x : ℕ). x / 2 ^ (m - (3 * i + 3))) (omega arith)))

-- the indexes below pixel i stay
below : (d i v j : ℕ) → j < i → index_at (set_at d i v) j ≡ index_at d j
below d i v j lt =
    let e : 3 * i ≡ 3 * (i - j) - 3 + 3 + 3 * j = omega arith in
    rw e (simp (pow-add, ← mul_assoc) (rw (add-mul-div_right _ _ (pow_pos (3 * j))) (omega arith)))

-- What was set is what is read.
pub set_get : (d i v : ℕ) → v < 8 → index_at d i ≡ 0 → index_at (set_at d i v) i ≡ v
set_get d i v small unset = rw from (omega arith)

-- The other indexes stay.
pub set_other : (d i v j : ℕ) → v < 8 → index_at d i ≡ 0 → (i ≡ j → ⊥) → index_at (set_at d i v) j ≡ index_at d j
set_other d i v j small unset other =
    dite (dec_lt i j) (λ lt. rw (above d i v (3 * j) small unset (omega arith))) (λ le. below d i v j (omega arith))

-- A number of m bits, among them pixel i's, stays one.
pub set_lt : (d i v m : ℕ) → v < 8 → index_at d i ≡ 0 → 3 * i + 3 ≤ m → d < 2 ^ m → set_at d i v < 2 ^ m
set_lt d i v m small unset le lt =
    let none : set_at d i v / 2 ^ m < 1 = omega (arith, above d i v m small unset le, div-eq_of_lt lt) in
    omega (arith, (div-lt_iff_lt-mul (pow_pos m)).0 none)

-- n pixels take 3n bits.
pub filled_lt : (f : ℕ → ℕ) (n : ℕ) → ((k : ℕ) → k < n → f k < 8) → filled_to f n < 2 ^ (3 * n)
unfolding filled_to
filled_lt f zero small = omega arith
filled_lt f (suc n) small =
    let e : 3 * suc n ≡ 3 + 3 * n = omega arith in
    rw (e, pow-add) (omega (arith, digits_lt (small n (omega arith)) (filled_lt f n (λ k lt. small k (omega arith)))))

-- After n pixels the rest is still unset.
pub filled_unset : (f : ℕ → ℕ) (n : ℕ) → ((k : ℕ) → k < n → f k < 8) → (i : ℕ) → n ≤ i → index_at (filled_to f n) i ≡ 0
filled_unset f n small i le =
    let lt : filled_to f n < 2 ^ (3 * i) = lt_of_lt_of_le (filled_lt f n small) (pow_mono (omega arith)) in
    rw (div-eq_of_lt lt)

-- After n pixels each of them reads as what it was set to.
pub filled_get : (f : ℕ → ℕ) (n : ℕ) → ((k : ℕ) → k < n → f k < 8) → (i : ℕ) → i < n → index_at (filled_to f n) i ≡ f i
unfolding filled_to
filled_get f zero small i lt = omega arith
filled_get f (suc n) small i lt =
    let last : f n < 8 = small n (omega arith) in
    let less : (k : ℕ) → k < n → f k < 8 = λ k h. small k (omega arith) in
    let unset : index_at (filled_to f n) n ≡ 0 = filled_unset f n less n (omega arith) in
    dite (dec_lt i n)
    (λ h. set_other (filled_to f n) n (f n) i last unset (omega arith) ∙ filled_get f n less i h)
    (λ h. let e : i ≡ n = omega arith in rw e (set_get (filled_to f n) n (f n) last unset))

-- Two rules that agree on the first n pixels fill them alike.
pub filled_same : (f g : ℕ → ℕ) (n : ℕ) → ((k : ℕ) → k < n → f k ≡ g k) → filled_to f n ≡ filled_to g n
unfolding filled_to
filled_same f g zero same = refl
filled_same f g (suc n) same = rw (filled_same f g n (λ k lt. same k (omega arith)), same n (omega arith))

-- bits below m are those of the m low bits
pub bits_low : (d k w m : ℕ) → k + w ≤ m → d % 2 ^ m / 2 ^ k % 2 ^ w ≡ d / 2 ^ k % 2 ^ w
bits_low d k w m le =
    let e : m ≡ m - (k + w) + w + k = omega arith in
    rw (e, field, mod-mod-pow)

-- from byte 2 on a block's bytes are the list's
byte_list : (c0 c1 d : ℕ) → c0 < 256 → c1 < 256 → (j : ℕ) → j < 6 → byte_at (packed c0 c1 d) (j + 2) ≡ byte_at d j
byte_list c0 c1 d h0 h1 j lt =
    let high : packed c0 c1 d / 2 ^ 16 ≡ d % 2 ^ 48 = omega arith in
    let e : 8 * (j + 2) ≡ 16 + 8 * j = omega arith in
    rw (e, ← shr-shr, high) (bits_low d (8 * j) 8 48 (omega arith))

-- A block's bytes are the two endpoints, then the list's six bytes.
pub bytes_packed : (c0 c1 d : ℕ) → c0 < 256 → c1 < 256
    → bytes_of (packed c0 c1 d) ≡ c0 ∷ c1 ∷ byte_at d 0 ∷ byte_at d 1 ∷ byte_at d 2 ∷ byte_at d 3 ∷ byte_at d 4 ∷ byte_at d 5 ∷ []
bytes_packed c0 c1 d h0 h1 =
    let at = byte_list c0 c1 d h0 h1 in
    let first : byte_at (packed c0 c1 d) 0 ≡ c0 = omega arith in
    let second : byte_at (packed c0 c1 d) 1 ≡ c1 = omega arith in
    cc (at 0 (omega arith), at 1 (omega arith), at 2 (omega arith), at 3 (omega arith), at 4 (omega arith), at 5 (omega arith))

-- m + 8 bits are a byte and the m bits above it
byte_first : (d j m : ℕ) → d / 2 ^ j % 2 ^ 8 + 2 ^ 8 * (d / 2 ^ (j + 8) % 2 ^ m) ≡ d / 2 ^ j % 2 ^ (m + 8)
byte_first d j m = rw (← shr-shr, mod-pow-add) (omega arith)

-- The list's six bytes are its 48 bits, little-endian.
pub bytes_48 : (d : ℕ)
    → byte_at d 0 + 2 ^ 8 * (byte_at d 1 + 2 ^ 8 * (byte_at d 2 + 2 ^ 8 * (byte_at d 3 + 2 ^ 8 * (byte_at d 4 + 2 ^ 8 * byte_at d 5)))) ≡ d % 2 ^ 48
bytes_48 d = rw (byte_first d 32 8, byte_first d 24 16, byte_first d 16 24, byte_first d 8 32, byte_first d 0 40, div-one)

-- ---- eight bytes and their number
from_byte : (bs : List ℕ) (k : ℕ) → k < length bs → from_bytes (drop k bs) ≡ get_or bs k 0 + 2 ^ 8 * from_bytes (drop (suc k) bs)
unfolding from_bytes
from_byte bs k h = rw (drop-cons bs k 0 h)

from_none : (bs : List ℕ) (k : ℕ) → length bs ≤ k → from_bytes (drop k bs) ≡ 0
unfolding from_bytes
from_none bs k h = rw (drop_of_length-le bs h)

-- four and eight bytes as std reads them
pub four_read : (bs : List ℕ) → length bs ≡ 4 → from_le_bytes w32 bs ≡ from_bytes bs
four_read bs e = omega (arith, from_byte bs 0 (omega arith), from_byte bs 1 (omega arith), from_byte bs 2 (omega arith), from_byte bs 3 (omega arith), from_none bs 4 (omega arith))

pub eight_read : (bs : List ℕ) → length bs ≡ 8 → from_le_bytes w64 bs ≡ from_bytes bs
eight_read bs e =
    omega (
      arith,
      from_byte bs 0 (omega arith),
      from_byte bs 1 (omega arith),
      from_byte bs 2 (omega arith),
      from_byte bs 3 (omega arith),
      from_byte bs 4 (omega arith),
      from_byte bs 5 (omega arith),
      from_byte bs 6 (omega arith),
      from_byte bs 7 (omega arith),
      from_none bs 8 (omega arith),
    )

-- The bytes of a number are its 64 low bits.
pub from_bytes_of : (n : ℕ) → from_bytes (bytes_of n) ≡ n % 2 ^ 64
unfolding from_bytes
from_bytes_of n =
    let last : byte_at n 7 + 2 ^ 8 * 0 ≡ n / 2 ^ 56 % 2 ^ 8 = omega arith in
    rw (last, byte_first n 48 8, byte_first n 40 16, byte_first n 32 24, byte_first n 24 32, byte_first n 16 40, byte_first n 8 48, byte_first n 0 56, div-one)
