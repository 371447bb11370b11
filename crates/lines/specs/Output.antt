-- The lines of the program, as bytes. Document 01, "The program": sixteen lower-case hex digits, the block's bytes in order, or `refused N`.
use Rattle.std.specs.Prelude.{List, [], ◌∷◌, ℕ, ◌+◌, ◌/◌, ◌%◌, get_or}
use Rattle.index_list.specs.Layout.{byte_at}

-- the digit of a number below 16: of the bytes of `0123456789abcdef`
abbrev pub digit : ℕ → ℕ
digit n = get_or (48 ∷ 49 ∷ 50 ∷ 51 ∷ 52 ∷ 53 ∷ 54 ∷ 55 ∷ 56 ∷ 57 ∷ 97 ∷ 98 ∷ 99 ∷ 100 ∷ 101 ∷ 102 ∷ []) n 0

-- the two digits of a byte, the higher first, and then the rest
abbrev pub hex_byte : ℕ → List ℕ → List ℕ
hex_byte b rest = digit (b / 16) ∷ digit (b % 16) ∷ rest

abbrev pub line_feed : ℕ
line_feed = 10

unfoldable pub hex_line : ℕ → List ℕ
hex_line n =
    hex_byte (byte_at n 0) (hex_byte (byte_at n 1) (hex_byte (byte_at n 2) (hex_byte (byte_at n 3)
    (hex_byte (byte_at n 4) (hex_byte (byte_at n 5) (hex_byte (byte_at n 6) (hex_byte (byte_at n 7) (line_feed ∷ []))))))))

-- the bytes of `refused `, the number's digit, and the line feed
unfoldable pub refused_line : ℕ → List ℕ
refused_line number = 114 ∷ 101 ∷ 102 ∷ 117 ∷ 115 ∷ 101 ∷ 100 ∷ 32 ∷ (48 + number) ∷ line_feed ∷ []

-- the bytes of `short`
abbrev pub short_line : List ℕ
short_line = 115 ∷ 104 ∷ 111 ∷ 114 ∷ 116 ∷ line_feed ∷ []
