-- The eight bytes of a block. Document 01, "Eight bytes":
--   byte 0      c0
--   byte 1      c1
--   bytes 2..7  the sixteen indexes' 48 bits, little-endian
-- Inside the encoder the eight bytes go as one number, byte 0 lowest.
use Rattle.std.specs.Prelude.{List, [], ◌∷◌, ℕ, ◌+◌, ◌*◌, ◌/◌, ◌%◌, ◌^◌, ◌<◌, length, get_or}

-- byte j of a number, counted from the lowest
abbrev pub byte_at : ℕ → ℕ → ℕ
byte_at n j = n / 2 ^ (8 * j) % 2 ^ 8

-- a block as one number
abbrev pub packed : ℕ → ℕ → ℕ → ℕ
packed c0 c1 d = c0 + 2 ^ 8 * c1 + 2 ^ 16 * (d % 2 ^ 48)

-- the eight bytes in order
abbrev pub bytes_of : ℕ → List ℕ
bytes_of n = byte_at n 0 ∷ byte_at n 1 ∷ byte_at n 2 ∷ byte_at n 3 ∷ byte_at n 4 ∷ byte_at n 5 ∷ byte_at n 6 ∷ byte_at n 7 ∷ []

-- the number of bytes in order
unfoldable pub from_bytes : List ℕ → ℕ
from_bytes [] = 0
from_bytes (b ∷ bs) = b + 2 ^ 8 * from_bytes bs

-- every element is a byte
abbrev pub AllBytes : List ℕ → Type 0
AllBytes bs = (i : ℕ) → i < length bs → get_or bs i 0 < 256
