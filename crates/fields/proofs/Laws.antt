-- Laws of little-endian fields, for any number of bytes.
use mathlib.Core.Path.{◌≡◌, sym, ap, ◌∙◌}
use mathlib.Core.List.{List, [], ◌∷◌}
use Prim.Native.Nat.{ℕ, zero, suc, ◌+◌, ◌-◌, ◌*◌, ◌/◌, ◌%◌, ◌^◌, ◌<◌, ◌≤◌}
use native.Mathlib.Nat.{mod-eq_of_lt}
use native.Mathlib.Omega.{arith}
use lib.ListN.{length, take, drop, get_or}
use lib.Seq.{drop-cons}
use lib.Pow.{mod-pow-add, mod-mod-pow, pow_pos}
use Rattle.index_list.specs.Layout.{bytes_of, from_bytes, AllBytes}
use Rattle.index_list.proofs.Laws.{from_bytes_of}
use Rattle.index_list.proofs.ReadBack.{bytes_all}
use Rattle.fields.specs.Fields.{field_at, field_of}

-- A field is its first byte and the field after that.
field_more : (n : ℕ) (bytes : List ℕ) (at next : ℕ) → at < length bytes → suc at ≡ next → field_at (suc n) bytes at ≡ get_or bytes at 0 + 2 ^ 8 * field_at n bytes next
unfolding from_bytes
field_more n bytes at next h e = rw (drop-cons bytes at 0 h, e)

pub four_bytes : (bytes : List ℕ) (at : ℕ) → at + 4 ≤ length bytes
    → field_at 4 bytes at ≡ get_or bytes at 0 + 2 ^ 8 * (get_or bytes (at + 1) 0 + 2 ^ 8 * (get_or bytes (at + 2) 0 + 2 ^ 8 * get_or bytes (at + 3) 0))
unfolding from_bytes
four_bytes bytes at h =
    omega (
      arith,
      field_more 3 bytes at (at + 1) (omega arith) (omega arith),
      field_more 2 bytes (at + 1) (at + 2) (omega arith) (omega arith),
      field_more 1 bytes (at + 2) (at + 3) (omega arith) (omega arith),
      field_more 0 bytes (at + 3) (at + 4) (omega arith) (omega arith),
    )

-- the number of the first n bytes
from_take : (n : ℕ) (bs : List ℕ) → AllBytes bs → from_bytes (take n bs) ≡ from_bytes bs % 2 ^ (8 * n)
unfolding from_bytes
from_take zero bs all = omega arith
from_take (suc n) [] all = sym (mod-eq_of_lt (pow_pos (8 * suc n)))
from_take (suc n) (b ∷ bs) all =
    let e : 8 * suc n ≡ 8 * n + 8 = omega arith in
    let byte : b < 256 = all 0 (omega arith) in
    let above : (b + 2 ^ 8 * from_bytes bs) / 2 ^ 8 ≡ from_bytes bs = omega arith in
    rw (e, mod-pow-add, above, from_take n bs (λ i l. all (suc i) (omega arith))) (omega arith)

-- Where the n bytes of a number stand, a field holds its 8n low bits.
pub field_holds : (n x : ℕ) (bytes : List ℕ) (at : ℕ) → n ≤ 8 → take n (drop at bytes) ≡ field_of n x → field_at n bytes at ≡ x % 2 ^ (8 * n)
field_holds n x bytes at le e =
    let all : 64 - 8 * n + 8 * n ≡ 64 = omega arith in
    let low : x % 2 ^ 64 % 2 ^ (8 * n) ≡ x % 2 ^ (8 * n) = rw all at (mod-mod-pow x (64 - 8 * n) (8 * n)) in
    ap from_bytes e ∙ from_take n (bytes_of x) (bytes_all x) ∙ rw (from_bytes_of x) low
