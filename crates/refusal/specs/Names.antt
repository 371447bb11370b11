-- Document 02: what a refusal can name: a side of a tile, a field of a DDS file's headers, or one of two channels.
use Rattle.std.specs.Prelude.{List, [], ◌∷◌, ℕ}
use Rattle.refusal.specs.declared.Side.{Side}
use Rattle.refusal.specs.declared.Side.TheVariants.{Width, Height}
use Rattle.refusal.specs.declared.Channel.{Channel}
use Rattle.refusal.specs.declared.Channel.TheVariants.{First, Second}
use Rattle.refusal.specs.declared.Fault.{Fault}
use Rattle.refusal.specs.declared.Fault.TheVariants.{Count, Nan, TileNan}
use Rattle.refusal.specs.declared.Field.{Field}
use Rattle.refusal.specs.declared.Field.TheVariants.{Header, Extension, Magic, HeaderSize, FourCharacters, ExtensionFormat, MipCount, Depth, CubeFaces, ArraySize}

-- the number of the refusal that names a field: two fields or more share each
abbrev pub number_for : Field → ℕ
number_for Header = 11
number_for Extension = 11
number_for Magic = 12
number_for HeaderSize = 12
number_for FourCharacters = 13
number_for ExtensionFormat = 13
number_for MipCount = 14
number_for Depth = 14
number_for CubeFaces = 14
number_for ArraySize = 14

-- a side, a field or a channel as a number, for the detail of a refusal; 0 is none
abbrev pub what_side : Side → ℕ
what_side Width = 1
what_side Height = 2

abbrev pub what_of : Field → ℕ
what_of Header = 3
what_of Extension = 4
what_of Magic = 5
what_of HeaderSize = 6
what_of FourCharacters = 7
what_of ExtensionFormat = 8
what_of MipCount = 9
what_of Depth = 10
what_of CubeFaces = 11
what_of ArraySize = 12

abbrev pub what_channel : Channel → ℕ
what_channel First = 13
what_channel Second = 14

-- what is wrong in a channel: the number that it has where there is one, and the four numbers of its detail, the channel's first
abbrev pub fault_number : Fault → ℕ
fault_number (Count channel) = 2
fault_number (Nan channel i) = 7
fault_number (TileNan channel spot) = 7

abbrev pub fault_detail : Fault → List ℕ
fault_detail (Count channel) = what_channel channel ∷ 0 ∷ 0 ∷ 0 ∷ []
fault_detail (Nan channel i) = what_channel channel ∷ i ∷ 0 ∷ 0 ∷ []
fault_detail (TileNan channel spot) = what_channel channel ∷ spot.index ∷ spot.row ∷ spot.column ∷ []
