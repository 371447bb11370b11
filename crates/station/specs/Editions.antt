-- Document 02, 5/12: a message, what a station holds, and how its editions are read. An edition has 16 bits, and after 65,535 comes 0.
use Rattle.std.specs.Prelude.{Bool, true, ◌&&◌, List, ℕ, zero, suc, ◌+◌, ◌-◌, ◌%◌, eqb, get_or, take, drop}
use Rattle.place.specs.Place.{bc4_size, block_at}

-- a block's place, an edition and eight bytes
pub record Message : Type 0 where
  pub column : ℕ
  pub row : ℕ
  pub edition : ℕ
  pub block : List ℕ

abbrev pub message : ℕ → ℕ → ℕ → List ℕ → Message
message column row edition block = record { column = column; row = row; edition = edition; block = block }

-- the tile, and beside it the record of editions: one entry for each block, in the tile's order
pub record Held : Type 0 where
  pub tile : List ℕ
  pub editions : List ℕ

abbrev pub holding : List ℕ → List ℕ → Held
holding tile editions = record { tile = tile; editions = editions }

-- an entry takes one place of the record, as a block takes eight of the tile
abbrev pub entry_size : ℕ
entry_size = 1

-- ---- what is held at a place
abbrev pub entry_at : Held → ℕ → ℕ → ℕ → ℕ
entry_at held width column row = get_or held.editions (block_at entry_size width column row) 0

abbrev pub bytes_at : Held → ℕ → ℕ → ℕ → List ℕ
bytes_at held width column row = take bc4_size (drop (block_at bc4_size width column row) held.tile)

-- ---- entries: 0 is an empty place. Any other n is edition n - 1, taken modulo 65,536, so that every content of a record has a meaning.
abbrev pub wrap : ℕ
wrap = 65536

abbrev pub halfway : ℕ
halfway = 32768

abbrev pub is_empty : ℕ → Bool
is_empty entry = eqb entry 0

abbrev pub edition_in : ℕ → ℕ
edition_in entry = (entry - 1) % wrap

abbrev pub entry_of : ℕ → ℕ
entry_of edition = edition + 1

-- the difference of a new edition from an old one
abbrev pub ahead : ℕ → ℕ → ℕ
ahead new old = (new + wrap - old) % wrap

-- ---- the first n bytes are the same
unfoldable pub alike : List ℕ → List ℕ → ℕ → Bool
alike held block zero = true
alike held block (suc n) = alike held block n && eqb (get_or held n 0) (get_or block n 0)
