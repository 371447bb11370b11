-- Document 02, 1/12: a DDS file of one BC4 tile, by Microsoft's DDS reference. Headers are little-endian fields of four bytes:
--     at   field                           the writer sets
--      0   magic                           `DDS `
--      4   header size                     124
--      8   flags                           0x81007
--     12   height
--     16   width
--     20   linear size                     width * height / 2
--     24   depth                           0
--     28   mip count                       1
--     32   reserved, to 75                 0
--     76   pixel format: its size          32
--     80   its flags                       4
--     84   four characters                 `BC4U` or `BC4S`
--     88   bit count and masks, to 107     0
--    108   caps                            0x1000
--    112   caps2                           0
--    116   more caps and reserved, to 127  0
-- The body follows, the tile's bytes. Where the four characters are `DX10`, which the writer never sets, an extension stands before it:
--    128   format: 80 unsigned, 81 signed
--    132   dimension
--    136   misc flags
--    140   array size
--    144   misc flags 2
use Rattle.std.specs.Prelude.{◌≡◌, Bool, true, cond, List, [], ◌∷◌, ◌++◌, ℕ, ◌≤◌, eqb, length, get_or}
use Rattle.fields.specs.Fields.{field_at, field_of}
use Rattle.place.specs.Place.{bc4_size, encoded_length, joined}

abbrev pub header_length : ℕ
header_length = 128

abbrev pub extended_length : ℕ
extended_length = 148

-- what the header size field says: all but the magic
abbrev pub header_size : ℕ
header_size = 124

-- ---- four characters as a number, the first lowest: `DDS `, `BC4U`, `BC4S`, `DX10`
abbrev pub dds_magic : ℕ
dds_magic = 0x20534444

abbrev pub bc4u : ℕ
bc4u = 0x55344342

abbrev pub bc4s : ℕ
bc4s = 0x53344342

abbrev pub dx10 : ℕ
dx10 = 0x30315844

-- ---- formats of the extension
abbrev pub unsigned_format : ℕ
unsigned_format = 80

abbrev pub signed_format : ℕ
signed_format = 81

-- ---- writing: the 32 fields of the header in order, a line for each eight
abbrev pub header_fields : ℕ → ℕ → Bool → List ℕ
header_fields width height snorm =
    dds_magic ∷ header_size ∷ 0x81007 ∷ height ∷ width ∷ encoded_length bc4_size width height ∷ 0 ∷ 1
    ∷ 0 ∷ 0 ∷ 0 ∷ 0 ∷ 0 ∷ 0 ∷ 0 ∷ 0
    ∷ 0 ∷ 0 ∷ 0 ∷ 32 ∷ 4 ∷ cond snorm bc4s bc4u ∷ 0 ∷ 0
    ∷ 0 ∷ 0 ∷ 0 ∷ 0x1000 ∷ 0 ∷ 0 ∷ 0 ∷ 0 ∷ []

abbrev pub header_field : ℕ → ℕ → Bool → ℕ → List ℕ
header_field width height snorm k = field_of 4 (get_or (header_fields width height snorm) k 0)

unfoldable pub header_of : ℕ → ℕ → Bool → List ℕ
header_of width height snorm = joined (header_field width height snorm) 32

abbrev pub file_of : List ℕ → ℕ → ℕ → Bool → List ℕ
file_of tile width height snorm = header_of width height snorm ++ tile

-- ---- reading: the fields that the reader looks at
abbrev pub magic_in : List ℕ → ℕ
magic_in file = field_at 4 file 0

abbrev pub header_size_in : List ℕ → ℕ
header_size_in file = field_at 4 file 4

abbrev pub height_in : List ℕ → ℕ
height_in file = field_at 4 file 12

abbrev pub width_in : List ℕ → ℕ
width_in file = field_at 4 file 16

abbrev pub depth_in : List ℕ → ℕ
depth_in file = field_at 4 file 24

abbrev pub mip_count_in : List ℕ → ℕ
mip_count_in file = field_at 4 file 28

abbrev pub four_characters_in : List ℕ → ℕ
four_characters_in file = field_at 4 file 84

abbrev pub caps2_in : List ℕ → ℕ
caps2_in file = field_at 4 file 112

abbrev pub extended : List ℕ → Bool
extended file = eqb (four_characters_in file) dx10

-- of a file without extension: the format that the four characters stand for
unfoldable pub format_in : List ℕ → ℕ
format_in file = cond (extended file) (field_at 4 file 128) (cond (eqb (four_characters_in file) bc4s) signed_format unsigned_format)

-- of a file without extension: one
unfoldable pub array_size_in : List ℕ → ℕ
array_size_in file = cond (extended file) (field_at 4 file 140) 1

-- where the body starts
unfoldable pub body_at : List ℕ → ℕ
body_at file = cond (extended file) extended_length header_length

-- the headers are there, which refusal 11 is about
pub record Whole (file : List ℕ) : Type 0 where
  pub header : header_length ≤ length file
  pub extension : extended file ≡ true → extended_length ≤ length file
