-- The conditions of the documents' tables, in their words: over lengths, numbers and bytes, not the tests of the code.
use Rattle.std.specs.Prelude.{◌≡◌, true, false, ◌⊎◌, List, [], ◌∷◌, ℕ, ◌+◌, ◌-◌, ◌*◌, ◌/◌, ◌%◌, ◌^◌, ◌<◌, ◌≤◌, length, Float}
use Rattle.std.specs.Float.Ieee.{is_nan}
use Rattle.block.specs.Samples.{pixel_at}
use Rattle.fields.specs.Fields.{field_at}
use Rattle.refusal.specs.declared.Refusal.{Refusal}
use Rattle.refusal.specs.declared.Refusal.TheVariants.{SideIsZero, SampleIsNan, TileSampleIsNan, SideTooLarge, SideNotMultipleOf4, DdsHeader}
use Rattle.refusal.specs.declared.Side.TheVariants.{Width, Height}
use Rattle.refusal.specs.declared.Spot.{Spot}
use Rattle.refusal.specs.declared.Field.{Field}
use Rattle.dds.specs.Layout.{dx10}
use Rattle.demands.specs.Exactly.{Condition, When}

-- ---- document 01
-- 1, before document 02 told its three parts apart
abbrev pub BadSide : ℕ → Type 0
BadSide n = (n ≡ 0) ⊎ (1024 < n) ⊎ (n % 4 ≡ 0 → ⊥)

-- 6
abbrev pub Missing : ℕ → ℕ → ℕ → ℕ → Type 0
Missing width height column row = (width / 4 ≤ column) ⊎ (height / 4 ≤ row)

-- 7, with the lowest index
pub record LowestNan (samples : List Float) (i : ℕ) : Type 0 where
  pub within : i < length samples
  pub there : is_nan (pixel_at samples i) ≡ true
  pub none_lower : (j : ℕ) → j < i → is_nan (pixel_at samples j) ≡ false

-- 8, quality and last being bytes 2 and 3 of the word
abbrev pub BadWord : ℕ → ℕ → Type 0
BadWord quality last = (2 < quality) ⊎ (last ≡ 0 → ⊥)

-- `said` is the refusal that says the index
abbrev pub WhenNanSaid : (ℕ → Refusal) → List Float → Condition
WhenNanSaid said samples q = (i : ℕ) × (q ≡ said i) × LowestNan samples i

abbrev pub WhenNan : List Float → Condition
WhenNan = WhenNanSaid SampleIsNan

-- ---- document 02, 2/12: what is wrong with a size
abbrev pub NoMultipleOf4 : ℕ → Type 0
NoMultipleOf4 n = (k : ℕ) → n ≡ 4 * k → ⊥

-- 1, 9, 10, each with the side, the width before the height: wherever 1 stood
abbrev pub SizeRefuses : ℕ → ℕ → List Condition
SizeRefuses width height =
    When (SideIsZero Width) (width ≡ 0) ∷ When (SideIsZero Height) (height ≡ 0)
    ∷ When (SideTooLarge Width) (1024 < width) ∷ When (SideTooLarge Height) (1024 < height)
    ∷ When (SideNotMultipleOf4 Width) (NoMultipleOf4 width) ∷ When (SideNotMultipleOf4 Height) (NoMultipleOf4 height) ∷ []

-- 7 on a tile: the lowest index, and where it stands
pub record LowestTileNan (samples : List Float) (width height : ℕ) (spot : Spot) : Type 0 where
  pub lowest : LowestNan samples spot.index
  pub place : spot.index ≡ spot.row * width + spot.column
  pub column_within : spot.column < width
  pub row_within : spot.row < height

abbrev pub WhenTileNanSaid : (Spot → Refusal) → List Float → ℕ → ℕ → Condition
WhenTileNanSaid said samples width height q = (spot : Spot) × (q ≡ said spot) × LowestTileNan samples width height spot

abbrev pub WhenTileNan : List Float → ℕ → ℕ → Condition
WhenTileNan = WhenTileNanSaid TileSampleIsNan

-- ---- document 02, 1/12: DDS files
-- four bytes of a file as a number, and its four characters
abbrev pub field : List ℕ → ℕ → ℕ
field = field_at 4

abbrev pub four : List ℕ → ℕ
four file = field file 84

-- 11 to 14, with the field
abbrev pub WhenWrong : Field → Type 0 → Condition
WhenWrong f = When (DdsHeader f)

abbrev pub NoneOf : ℕ → List ℕ → Type 0
NoneOf x [] = Unit {0}
NoneOf x (y ∷ ys) = (x ≡ y → ⊥) × NoneOf x ys

-- 14: one of the six face bits, 0xFC00
abbrev pub CubeFace : ℕ → Type 0
CubeFace caps2 = (k : ℕ) × (10 ≤ k) × (k < 16) × (caps2 / 2 ^ k % 2 ≡ 1)

-- 15: the headers are 148 bytes with DX10, else 128
abbrev pub BadBody : List ℕ → Type 0
BadBody file =
    let body = field file 16 * field file 12 / 2 in
    ((four file ≡ dx10) × (length file ≡ 148 + body → ⊥)) ⊎ ((four file ≡ dx10 → ⊥) × (length file ≡ 128 + body → ⊥))

-- ---- document 02, 5/12: a place whose entry of the record is n, and a message's edition. 0 is an empty place, any other n is edition n - 1, and editions wrap.
-- 16: the same edition with other bytes
abbrev pub Reused : ℕ → ℕ → List ℕ → List ℕ → Type 0
Reused n edition bytes block = (0 < n) × ((n - 1) % 65536 ≡ edition % 65536) × (bytes ≡ block → ⊥)

-- 17: exactly 32,768 steps apart
abbrev pub Opposite : ℕ → ℕ → Type 0
Opposite n edition = (0 < n) × ((n - 1 + 32768) % 65536 ≡ edition % 65536)
