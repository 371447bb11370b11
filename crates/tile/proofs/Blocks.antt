-- A block within bytes, and what it is once its channels are laid in.
use mathlib.Core.Path.{◌≡◌, sym, ap, ◌∙◌}
use mathlib.Core.List.{List, ◌++◌, append-nil}
use Prim.Native.Nat.{ℕ, ◌+◌, ◌*◌, ◌<◌, ◌≤◌}
use native.Mathlib.Omega.{arith}
use lib.ListN.{length, take, drop, replicate, length-append, length-take, length-drop, length-replicate, take-append-drop, drop_of_length-le}
use lib.Seq.{take_at, drop_at, drop-drop, take-append-le}
use Rattle.place.specs.Place.{along, bc4_size, bc5_size, block_at}
use Rattle.place.proofs.Places.{fits, block_place}
use Rattle.place.proofs.Joined.{in_first}
use Rattle.tile.specs.Tile.{block_in, laid_in}

pub block_length : (bytes : List ℕ) (size at : ℕ) → length (block_in bytes size at) ≡ size
unfolding block_in
block_length bytes size at = simp (length-take, length-append, length-replicate) (omega arith)

pub block_inside : (bytes : List ℕ) (size at : ℕ) → at + size ≤ length bytes → block_in bytes size at ≡ take size (drop at bytes)
unfolding block_in
block_inside bytes size at h =
    let long : size ≤ length (drop at bytes) = simp length-drop (omega arith) in
    take-append-le size (drop at bytes) (replicate size 0) long

-- a block of a row's stretch is a block of all the bytes
pub block_of_row : (bytes : List ℕ) (size width column row at many : ℕ) → column < along width → at ≡ row * (along width * size) → many ≡ along width * size → at + many ≤ length bytes
    → block_in (take many (drop at bytes)) size (column * size) ≡ block_in bytes size (block_at size width column row)
block_of_row bytes size width column row at many h a m room =
    let rest = drop at bytes in
    let within = fits column (along width) size h in
    let long : column * size + size ≤ length (take many rest) = simp (length-take, length-drop) (omega arith) in
    let place : at + column * size ≡ block_at size width column row = omega (arith, block_place size width column row) in
    block_inside (take many rest) size (column * size) long
    ∙ sym (in_first (take many rest) (drop many rest) size (column * size) long)
    ∙ ap (λ all. take size (drop (column * size) all)) (take-append-drop many rest)
    ∙ ap (take size) (drop-drop (column * size) at bytes)
    ∙ sym (block_inside bytes size (at + column * size) (omega arith))
    ∙ ap (block_in bytes size) place

-- a block keeps its length, so the blocks that a pass leaves are all of one length
laid_length : (block eight : List ℕ) → length eight ≡ bc4_size → (start : ℕ) → start + bc4_size ≤ length block → length (laid_in block start eight) ≡ length block
unfolding laid_in
laid_length block eight e start h = simp (length-append, length-take, length-drop) (omega arith)

pub laid_in_length : (bytes : List ℕ) (size at start : ℕ) (eight : List ℕ) → length eight ≡ bc4_size → start + bc4_size ≤ size → length (laid_in (block_in bytes size at) start eight) ≡ size
laid_in_length bytes size at start eight e h = laid_length (block_in bytes size at) eight e start (omega (arith, block_length bytes size at)) ∙ block_length bytes size at

-- ---- all channels of a block, laid in one after the other: nothing stays of what it was
pub one_laid : (block eight : List ℕ) → length block ≡ bc4_size → laid_in block 0 eight ≡ eight
unfolding laid_in
one_laid block eight long =
    let short : length block ≤ bc4_size = omega arith in
    rw (drop_of_length-le block short) (append-nil eight)

pub two_laid : (block first second : List ℕ) → length first ≡ bc4_size → length block ≡ bc5_size → laid_in (laid_in block 0 first) bc4_size second ≡ first ++ second
unfolding laid_in
two_laid block first second eight long =
    let rest = drop bc4_size block in
    let short : length rest ≤ bc4_size = simp length-drop (omega arith) in
    rw (take_at first rest bc4_size eight, drop_at first rest bc4_size eight, drop_of_length-le rest short, append-nil second)
