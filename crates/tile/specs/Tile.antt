-- Document 01, "Calls and numbers": the bytes of a tile, where each block is what the block call gives for its own sixteen samples.
use Rattle.std.specs.Prelude.{List, ◌++◌, ℕ, take, drop, replicate, Float}
use Rattle.index_list.specs.Layout.{bytes_of}
use Rattle.options.specs.declared.Options.{Options}
use Rattle.encode.specs.Encoder.{compressed}
use Rattle.place.specs.Place.{bc4_size, block_of, block_at, all_bytes}

-- the eight bytes of one channel of a block
abbrev pub block_bytes : List Float → ℕ → Options → ℕ → ℕ → List ℕ
block_bytes samples width o column row = bytes_of (compressed (block_of samples width column row) o)

-- and of a block of two: the first channel's, and then the second's
abbrev pub pair_bytes : List Float → List Float → ℕ → Options → ℕ → ℕ → List ℕ
pair_bytes first second width o column row = block_bytes first width o column row ++ block_bytes second width o column row

abbrev pub tile_bytes : List Float → ℕ → ℕ → Options → List ℕ
tile_bytes samples width height o = all_bytes (block_bytes samples width o) width height

-- ---- What the pass of one channel leaves. Nobody has to believe these: they stand between the functions of this crate only.

-- the `size` bytes from `at` on, and zeros past the end, so that there are always as many
unfoldable pub block_in : List ℕ → ℕ → ℕ → List ℕ
block_in bytes size at = take size (drop at bytes ++ replicate size 0)

-- a block, with eight bytes from `start` on in place of its own
unfoldable pub laid_in : List ℕ → ℕ → List ℕ → List ℕ
laid_in block start eight = take start block ++ (eight ++ drop bc4_size (drop start block))

abbrev pub channel_block : List Float → ℕ → ℕ → ℕ → Options → List ℕ → ℕ → ℕ → List ℕ
channel_block samples size start width o old column row = laid_in (block_in old size (block_at size width column row)) start (block_bytes samples width o column row)
