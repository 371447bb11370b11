-- Document 01, "Calls and numbers": which sizes a tile has (refusals 1, 9 and 10), which blocks stand in it (refusal 6), and where their samples and bytes
-- are. Samples are row-major, blocks go row by row from the top left. `size` is the bytes of a block.
use Rattle.std.specs.Prelude.{Bool, not, ◌||◌, List, [], ◌++◌, ℕ, zero, suc, ◌+◌, ◌*◌, ◌/◌, ◌%◌, leb, ltb, eqb, Float}
use Rattle.block.specs.Samples.{pixel_at, per_pixel}

abbrev pub longest_side : ℕ
longest_side = 1024

unfoldable pub bad_side : ℕ → Bool
bad_side n = (eqb n 0 || ltb longest_side n) || not (eqb (n % 4) 0)

unfoldable pub bad_size : ℕ → ℕ → Bool
bad_size width height = bad_side width || bad_side height

-- how many blocks stand along a side: the blocks of a row, or the rows of blocks
abbrev pub along : ℕ → ℕ
along side = side / 4

-- the bytes of a BC4 block
abbrev pub bc4_size : ℕ
bc4_size = 8

-- and of a BC5 block, two of them
abbrev pub bc5_size : ℕ
bc5_size = 16

-- the bytes of all blocks: `size` for sixteen samples, of a BC4 tile width * height / 2
abbrev pub encoded_length : ℕ → ℕ → ℕ → ℕ
encoded_length size width height = width * height * size / 16

abbrev pub no_block : ℕ → ℕ → ℕ → ℕ → Bool
no_block width height column row = leb (along width) column || leb (along height) row

-- where the bytes of a block start
abbrev pub block_at : ℕ → ℕ → ℕ → ℕ → ℕ
block_at size width column row = size * (row * along width + column)

-- n pieces, one after the other
unfoldable pub joined : (ℕ → List ℕ) → ℕ → List ℕ
joined piece zero = []
joined piece (suc n) = joined piece n ++ piece n

-- the bytes of the blocks of a row, and of all rows, each block at its place (`block_stands`)
abbrev pub row_bytes : (ℕ → ℕ → List ℕ) → ℕ → ℕ → List ℕ
row_bytes block width row = joined (λ column. block column row) (along width)

abbrev pub all_bytes : (ℕ → ℕ → List ℕ) → ℕ → ℕ → List ℕ
all_bytes block width height = joined (row_bytes block width) (along height)

-- where pixel i of a block stands among the samples
abbrev pub sample_index : ℕ → ℕ → ℕ → ℕ → ℕ
sample_index width column row i = (4 * row + i / 4) * width + (4 * column + i % 4)

-- a block's own sixteen samples
unfoldable pub block_of : List Float → ℕ → ℕ → ℕ → List Float
block_of samples width column row = per_pixel (λ i. pixel_at samples (sample_index width column row i))
