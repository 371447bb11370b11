-- The sum of a block error by one pixel more, a decoded sample by its pixel, and the sizes of bytes and indexes.
use mathlib.Core.Path.{◌≡◌, refl, sym, ap, ◌∙◌}
use mathlib.Core.List.{List, [], ◌∷◌}
use mathlib.Core.Bool.{Bool}
use Prim.Native.Nat.{ℕ, ◌+◌, ◌*◌, ◌/◌, ◌%◌, ◌^◌, ◌<◌}
use native.Mathlib.Nat.{div-one}
use native.Mathlib.Numerals.{add-one}
use native.Mathlib.Omega.{arith}
use lib.Ieee.{Float, nan}
use Rattle.floats.specs.Arithmetic.{◌⊕◌}
use lib.ListN.{length, drop}
use lib.Pow.{shr-shr}
use Rattle.std.proofs.lemmas.List.{length-drop, drop_more}
use Rattle.index_list.specs.Layout.{byte_at, bytes_of, from_bytes}
use Rattle.index_list.proofs.Laws.{bits_low, from_bytes_of}
use Rattle.block.specs.Samples.{pixel_at, per_pixel}
use Rattle.block.proofs.Fill.{length_tabulate, get_d_tabulate, tabulated}
use Rattle.values.specs.Values.{level_of, level_value}
use Rattle.palette.specs.Palettes.{entry}
use Rattle.decode.specs.Meaning.{is_six, eight_of, table_of, block_index, picked, sample_at, decoded}
use Rattle.decode.specs.BlockError.{sample_error, error_to, block_error}

pub error_to_more : (s v : List Float) (k : ℕ) → error_to s v (k + 1) ≡ error_to s v k ⊕ sample_error (pixel_at s k) (pixel_at v k)
unfolding error_to
error_to_more s v k = rw add-one

-- where the samples from k on are x and others, pixel k is x and the others are those from k + 1 on
pub next_of : (s : List Float) (k : ℕ) (x : Float) (from_k others : List Float) → from_k ≡ drop k s → from_k ≡ x ∷ others
    → (k < length s) × (others ≡ drop (k + 1) s) × (x ≡ pixel_at s k)
next_of s k x from_k others e f =
    let inside : k < length s = omega (arith, length-drop k s, ap length (sym e ∙ f)) in
    let more = drop_more s k nan inside in
    (inside, cc, cc)

pub decoded_at : (snorm : Bool) (n i : ℕ) → i < 16 → pixel_at (decoded n snorm) i ≡ sample_at snorm n i
unfolding decoded
decoded_at snorm n i h = get_d_tabulate (sample_at snorm n) nan h

-- What is picked of the eight values of a block's two levels, as floats, are its samples.
pub picked_decoded : (snorm : Bool) (n c0 c1 l0 l1 : ℕ) (e eight : List Float) (six : Bool) → c0 ≡ n % 256 → c1 ≡ n / 2 ^ 8 % 256 → l0 ≡ level_of c0 snorm → l1 ≡ level_of c1 snorm
    → e ≡ level_value l0 snorm ∷ level_value l1 snorm ∷ [] → six ≡ is_six c0 c1 snorm → eight ≡ eight_of (entry e 0) (entry e 1) six
    → per_pixel (picked eight (n / 2 ^ 16)) ≡ decoded n snorm
unfolding decoded table_of
picked_decoded snorm n c0 c1 l0 l1 e eight six f0 f1 e0 e1 ee es e8 =
    let same : eight ≡ table_of snorm (byte_at n 0) (byte_at n 1) = rw (e8, es, ee, e0, e1, f0, f1, div-one) refl in
    ap (λ (v : List Float). per_pixel (picked v (n / 2 ^ 16))) same

pub byte_lt : (n j : ℕ) → byte_at n j < 256
byte_lt n j = omega arith

pub index_lt : (n i : ℕ) → block_index n i < 8
index_lt n i = omega arith

-- ---- Bits from 64 on mean nothing.
low_index : (n i : ℕ) → i < 16 → block_index (n % 2 ^ 64) i ≡ block_index n i
low_index n i h = rw (shr-shr, shr-shr) (bits_low n (16 + 3 * i) 3 64 (omega arith))

low_sample : (snorm : Bool) (n i : ℕ) → i < 16 → sample_at snorm (n % 2 ^ 64) i ≡ sample_at snorm n i
low_sample snorm n i h = rw (low_index n i h, bits_low n 0 8 64 (omega arith), bits_low n 8 8 64 (omega arith))

pub decoded_low : (snorm : Bool) (n : ℕ) → decoded (n % 2 ^ 64) snorm ≡ decoded n snorm
unfolding decoded
decoded_low snorm n = tabulated nan (sample_at snorm n) _ (length_tabulate (sample_at snorm (n % 2 ^ 64)) 0 16) (λ i h. rw get_d_tabulate (low_sample snorm n i h))

-- So a block that was laid out in bytes is read as it was.
pub error_of_bytes : (snorm : Bool) (s : List Float) (n : ℕ) → block_error s (from_bytes (bytes_of n)) snorm ≡ block_error s n snorm
unfolding block_error
error_of_bytes snorm s n = rw (from_bytes_of n, decoded_low snorm n)
