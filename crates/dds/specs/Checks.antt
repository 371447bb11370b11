-- Document 02, 1/12: what the two calls check, in their order.
use Rattle.std.specs.Prelude.{Bool, not, ◌&&◌, List, [], ◌∷◌, ◌++◌, ℕ, ◌+◌, ◌/◌, ◌%◌, ◌^◌, ltb, eqb, length}
use Rattle.place.specs.Place.{bc4_size, encoded_length}
use Rattle.refusal.specs.declared.Refusal.TheVariants.{DdsHeader, DdsBody}
use Rattle.refusal.specs.declared.Field.{Field}
use Rattle.refusal.specs.declared.Field.TheVariants.{Header, Extension, Magic, HeaderSize, FourCharacters, ExtensionFormat, MipCount, Depth, CubeFaces, ArraySize}
use Rattle.refusal.specs.Refusals.{Check, when, room_check, size_checks, bytes_checks}
use Rattle.dds.specs.Layout.{header_length, extended_length, header_size, dds_magic, bc4u, bc4s, dx10, unsigned_format, signed_format, magic_in, header_size_in, height_in, width_in, depth_in, mip_count_in, four_characters_in, caps2_in, extended, format_in, array_size_in, body_at}

-- ---- writing: 1, 9, 10, 3, 4; `long` is the length of the tile, `room` that of the output
abbrev pub write_checks : ℕ → ℕ → ℕ → ℕ → List Check
write_checks long width height room = bytes_checks long width height ++ room_check room (header_length + encoded_length bc4_size width height) ∷ []

-- ---- reading
abbrev pub wrong : Field → Bool → Check
wrong field applies = when (DdsHeader field) applies

abbrev pub is_not : ℕ → ℕ → Bool
is_not x y = not (eqb x y)

-- 11: it looks at no magic
abbrev pub cut_checks : List ℕ → List Check
cut_checks file = wrong Header (ltb (length file) header_length) ∷ wrong Extension (extended file && ltb (length file) extended_length) ∷ []

-- 12
abbrev pub mark_checks : List ℕ → List Check
mark_checks file = wrong Magic (is_not (magic_in file) dds_magic) ∷ wrong HeaderSize (is_not (header_size_in file) header_size) ∷ []

-- 13
abbrev pub format_checks : List ℕ → List Check
format_checks file =
    wrong FourCharacters ((is_not (four_characters_in file) bc4u && is_not (four_characters_in file) bc4s) && is_not (four_characters_in file) dx10)
    ∷ wrong ExtensionFormat (is_not (format_in file) unsigned_format && is_not (format_in file) signed_format) ∷ []

-- 14: the six faces of a cube are bits 10 to 15 of caps2
abbrev pub picture_checks : List ℕ → List Check
picture_checks file =
    wrong MipCount (ltb 1 (mip_count_in file)) ∷ wrong Depth (ltb 1 (depth_in file)) ∷ wrong CubeFaces (is_not (caps2_in file / 2 ^ 10 % 2 ^ 6) 0)
    ∷ wrong ArraySize (is_not (array_size_in file) 1) ∷ []

-- 1, 9, 10
abbrev pub side_checks : List ℕ → List Check
side_checks file = size_checks (width_in file) (height_in file)

-- 15
abbrev pub body_checks : List ℕ → List Check
body_checks file = when DdsBody (is_not (length file) (body_at file + encoded_length bc4_size (width_in file) (height_in file))) ∷ []

abbrev pub read_checks : List ℕ → List Check
read_checks file = cut_checks file ++ mark_checks file ++ format_checks file ++ picture_checks file ++ side_checks file ++ body_checks file
