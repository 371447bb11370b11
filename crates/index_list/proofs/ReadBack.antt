-- What was laid out is what is read: of a block its two endpoints and the index of each pixel; of eight bytes, as one number, the same bytes.
use mathlib.Core.Path.{◌≡◌, refl, sym, ◌∙◌}
use mathlib.Core.List.{List, [], ◌∷◌}
use Prim.Native.Nat.{ℕ, zero, suc, ◌+◌, ◌*◌, ◌/◌, ◌%◌, ◌^◌, ◌<◌}
use native.Mathlib.Nat.{mod-eq_of_lt}
use native.Mathlib.Omega.{arith}
use lib.ListN.{length}
use lib.Pow.{pow-add}
use Rattle.index_list.specs.Indexes.{index_at, filled_to}
use Rattle.index_list.specs.Layout.{byte_at, packed, bytes_of, from_bytes, AllBytes}
use Rattle.index_list.proofs.Laws.{filled_get, bits_low, from_bytes_of}

-- ---- a block
pub packed_ends : (c0 c1 d : ℕ) → c0 < 256 → c1 < 256 → (byte_at (packed c0 c1 d) 0 ≡ c0) × (byte_at (packed c0 c1 d) 1 ≡ c1)
packed_ends c0 c1 d h k = (omega arith, omega arith)

packed_list : (c0 c1 d : ℕ) → c0 < 256 → c1 < 256 → packed c0 c1 d / 2 ^ 16 ≡ d % 2 ^ 48
packed_list c0 c1 d h k = omega arith

pub packed_index : (c0 c1 : ℕ) (f : ℕ → ℕ) → c0 < 256 → c1 < 256 → ((k : ℕ) → k < 16 → f k < 8) → (i : ℕ) → i < 16
    → index_at (packed c0 c1 (filled_to f 16) / 2 ^ 16) i ≡ f i
packed_index c0 c1 f h0 h1 small i h =
    rw (packed_list c0 c1 (filled_to f 16) h0 h1) (bits_low (filled_to f 16) (3 * i) 3 48 (omega arith) ∙ filled_get f 16 small i h)

-- ---- eight bytes
all_rest : (b : ℕ) (bs : List ℕ) → AllBytes (b ∷ bs) → AllBytes bs
all_rest b bs all i l = all (suc i) (omega arith)

-- The bytes of a number are bytes.
pub bytes_all : (n : ℕ) → AllBytes (bytes_of n)
bytes_all n zero l = omega arith
bytes_all n (suc zero) l = omega arith
bytes_all n (suc (suc zero)) l = omega arith
bytes_all n (suc (suc (suc zero))) l = omega arith
bytes_all n (suc (suc (suc (suc zero)))) l = omega arith
bytes_all n (suc (suc (suc (suc (suc zero))))) l = omega arith
bytes_all n (suc (suc (suc (suc (suc (suc zero)))))) l = omega arith
bytes_all n (suc (suc (suc (suc (suc (suc (suc zero))))))) l = omega arith
bytes_all n (suc (suc (suc (suc (suc (suc (suc (suc i)))))))) l = absurd (omega arith)

-- n bytes take 8n bits
from_lt : (bs : List ℕ) → AllBytes bs → from_bytes bs < 2 ^ (8 * length bs)
unfolding from_bytes
from_lt [] all = omega arith
from_lt (b ∷ bs) all =
    let e : 8 * suc (length bs) ≡ 8 + 8 * length bs = omega arith in
    rw (e, pow-add) (omega (arith, all 0 (omega arith), from_lt bs (all_rest b bs all)))

-- as many bytes with the same number are the same
from_injective : (bs cs : List ℕ) → AllBytes bs → AllBytes cs → length bs ≡ length cs → from_bytes bs ≡ from_bytes cs → bs ≡ cs
unfolding from_bytes
from_injective [] [] p q l e = refl
from_injective [] (c ∷ cs) p q l e = absurd (omega arith)
from_injective (b ∷ bs) [] p q l e = absurd (omega arith)
from_injective (b ∷ bs) (c ∷ cs) p q l e =
    let x : b < 256 = p 0 (omega arith) in
    let y : c < 256 = q 0 (omega arith) in
    let first : b ≡ c = omega arith in
    let rest = from_injective bs cs (all_rest b bs p) (all_rest c cs q) (omega arith) (omega arith) in
    cc

pub bytes_from : (bs : List ℕ) → length bs ≡ 8 → AllBytes bs → bytes_of (from_bytes bs) ≡ bs
bytes_from bs long all =
    let small : from_bytes bs < 2 ^ 64 = rw long at (from_lt bs all) in
    from_injective (bytes_of (from_bytes bs)) bs (bytes_all (from_bytes bs)) all (sym long) (from_bytes_of (from_bytes bs) ∙ mod-eq_of_lt small)
