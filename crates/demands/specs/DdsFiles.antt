-- Document 02, 1/12: what is promised of DDS files besides their refusals, which are in `Demand1`: what is written, what it reads back as, and what a read looks at.
use Rattle.std.specs.Prelude.{◌≡◌, Bool, true, cond, ◌⊎◌, List, [], ◌∷◌, ℕ, ◌+◌, ◌*◌, ◌/◌, ◌<◌, ◌≤◌, length, take, drop, get_or}
use Rattle.std.specs.declared.result.Result.TheVariants.{Ok}
use Rattle.dds.specs.declared.Picture.{Picture}
use Rattle.dds.specs.Layout.{dds_magic, bc4u, bc4s, dx10}
use Rattle.dds.specs.Calls.{write_answer, file_after, read_answer, body_of}
use Rattle.fields.specs.Fields.{field_of}
use Rattle.demands.specs.Exactly.{Iff}
use Rattle.demands.specs.Conditions.{field, four}

-- ---- what is written
-- where the writer's fields stand that are not 0, four bytes each
abbrev pub set_fields : List ℕ
set_fields = 0 ∷ 4 ∷ 8 ∷ 12 ∷ 16 ∷ 20 ∷ 28 ∷ 76 ∷ 80 ∷ 84 ∷ 108 ∷ []

-- byte i is in none of the fields that start there
abbrev pub Elsewhere : ℕ → List ℕ → Type 0
Elsewhere i [] = Unit {0}
Elsewhere i (at ∷ ats) = ((i < at) ⊎ (at + 4 ≤ i)) × Elsewhere i ats

-- The header field by field, zero everywhere else, and then the tile. The four characters are spelled, so that no number of theirs has to be believed.
pub record Header (file tile : List ℕ) (width height : ℕ) (snorm : Bool) : Type 0 where
  pub long : length file ≡ 128 + length tile
  -- `DDS `
  pub magic : take 4 file ≡ 0x44 ∷ 0x44 ∷ 0x53 ∷ 0x20 ∷ []
  pub header_size_lem : field file 4 ≡ 124
  pub flags : field file 8 ≡ 0x81007
  pub height_field : field file 12 ≡ height
  pub width_field : field file 16 ≡ width
  pub linear_size : field file 20 ≡ width * height / 2
  pub mip_count : field file 28 ≡ 1
  pub pixel_size : field file 76 ≡ 32
  pub pixel_flags : field file 80 ≡ 4
  -- `BC4S` or `BC4U`
  pub characters : take 4 (drop 84 file) ≡ cond snorm (0x42 ∷ 0x43 ∷ 0x34 ∷ 0x53 ∷ []) (0x42 ∷ 0x43 ∷ 0x34 ∷ 0x55 ∷ [])
  pub caps : field file 108 ≡ 0x1000
  pub zero : (i : ℕ) → i < 128 → Elsewhere i set_fields → get_or file i 0 ≡ 0
  pub body : drop 128 file ≡ tile

-- ---- what a read looks at: two files agree there. The extension counts where the file has it.
pub record Agree (f g : List ℕ) : Type 0 where
  pub long : length f ≡ length g
  pub magic : field f 0 ≡ field g 0
  pub header_size_lem : field f 4 ≡ field g 4
  pub height : field f 12 ≡ field g 12
  pub width : field f 16 ≡ field g 16
  pub depth : field f 24 ≡ field g 24
  pub mip_count : field f 28 ≡ field g 28
  pub four_characters_lem : four f ≡ four g
  pub caps2 : field f 112 ≡ field g 112
  pub extension : four f ≡ dx10 → (field f 128 ≡ field g 128) × (field f 140 ≡ field g 140)

-- ---- what a read answers of a file that it does not refuse: size, format, and where the tile's bytes are, from there to the end
pub record Says (file : List ℕ) (p : Picture) : Type 0 where
  pub width : p.width ≡ field file 16
  pub height : p.height ≡ field file 12
  pub signed : Iff (p.snorm ≡ true) ((four file ≡ bc4s) ⊎ ((four file ≡ dx10) × (field file 128 ≡ 81)))
  pub start : (four file ≡ dx10 → p.start ≡ 148) × ((four file ≡ dx10 → ⊥) → p.start ≡ 128)
  pub body : body_of file ≡ drop p.start file
  pub body_length : length (body_of file) ≡ p.width * p.height / 2

pub record DdsFiles : Type 0 where
  -- The first n bytes of the output are the file, as many as the answer says; later bytes stay.
  pub written : (tile : List ℕ) (width height : ℕ) (snorm : Bool) (before : List ℕ) (n : ℕ) → write_answer (length tile) width height (length before) ≡ Ok n
      → let after = file_after (Ok n) tile width height snorm before in
      Header (take n after) tile width height snorm × (drop n after ≡ drop n before)
  -- Reading them gives size, format and tile back.
  pub back : (tile : List ℕ) (width height : ℕ) (snorm : Bool) (before : List ℕ) (n : ℕ) → write_answer (length tile) width height (length before) ≡ Ok n
      → let file = take n (file_after (Ok n) tile width height snorm before) in
      (read_answer file ≡ Ok (record { width = width; height = height; snorm = snorm; start = 128 })) × (body_of file ≡ tile)
  -- What any other file is read as.
  pub says : (file : List ℕ) (p : Picture) → read_answer file ≡ Ok p → Says file p
  -- Nothing else of a file matters: two that agree get the same answer.
  pub alone : (f g : List ℕ) → Agree f g → read_answer f ≡ read_answer g
  -- the numbers that the conditions of a read name, as the characters are spelled: `DDS `, `BC4U`, `BC4S`, `DX10`
  pub spelled : (field_of 4 dds_magic ≡ 0x44 ∷ 0x44 ∷ 0x53 ∷ 0x20 ∷ []) × (field_of 4 bc4u ≡ 0x42 ∷ 0x43 ∷ 0x34 ∷ 0x55 ∷ [])
      × (field_of 4 bc4s ≡ 0x42 ∷ 0x43 ∷ 0x34 ∷ 0x53 ∷ []) × (field_of 4 dx10 ≡ 0x44 ∷ 0x58 ∷ 0x31 ∷ 0x30 ∷ [])
