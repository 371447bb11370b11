-- Document 01, "Calls and numbers", and document 02: the refusals, their numbers, and what each call checks, as a list: the first check of it that applies is the answer.
-- Lists of document 01 without a size are in number order; nothing here rests on that, and `demands` shows it.
use Rattle.std.specs.Prelude.{Bool, not, cond, List, [], ◌∷◌, ◌++◌, ℕ, suc, ◌*◌, ◌/◌, ◌%◌, ltb, eqb, length, Float, ⊤}
use Rattle.std.specs.Float.Ieee.{is_nan}
use Rattle.options.specs.declared.Options.{Options}
use Rattle.place.specs.Place.{longest_side, no_block, bc4_size, encoded_length}
use Rattle.refusal.specs.declared.Refusal.{Refusal}
use Rattle.refusal.specs.declared.Refusal.TheVariants.{SideIsZero, SampleCount, EncodedLength, OutputLength, DitheredResend, NoSuchBlock, SampleIsNan, WordMalformed, SideTooLarge, SideNotMultipleOf4, TileSampleIsNan, DdsHeader, DdsBody, InChannel, EditionReused, EditionOpposite}
use Rattle.refusal.specs.declared.Side.TheVariants.{Width, Height}
use Rattle.refusal.specs.declared.Spot.{Spot}
use Rattle.refusal.specs.declared.Channel.{Channel}
use Rattle.refusal.specs.declared.Fault.TheVariants.{Count, Nan, TileNan}
use Rattle.std.specs.declared.result.Result.{Result}
use Rattle.std.specs.declared.result.Result.TheVariants.{Ok, Err}
use Rattle.refusal.specs.Names.{number_for, what_side, what_of, fault_number, fault_detail}

-- the document's number of a refusal
abbrev pub number_of : Refusal → ℕ
number_of (SideIsZero side) = 1
number_of SampleCount = 2
number_of EncodedLength = 3
number_of OutputLength = 4
number_of DitheredResend = 5
number_of NoSuchBlock = 6
number_of (SampleIsNan i) = 7
number_of WordMalformed = 8
number_of (SideTooLarge side) = 9
number_of (SideNotMultipleOf4 side) = 10
number_of (TileSampleIsNan spot) = 7
number_of (DdsHeader field) = number_for field
number_of DdsBody = 15
number_of (InChannel fault) = fault_number fault
number_of EditionReused = 16
number_of EditionOpposite = 17

-- What a refusal brings with it, as four numbers: what, index, row and column. Where it has something to say all four are written, 0 for what it says
-- nothing about; where it has not they stay as they were. Refusals 1, 9 and 10 say the side; 7 says the lowest index, of a tile with its row and column;
-- those of a DDS file's headers say the field; of two channels 2 and 7 say which.
abbrev pub detail_of : Refusal → List ℕ → List ℕ
detail_of (SideIsZero side) before = what_side side ∷ 0 ∷ 0 ∷ 0 ∷ []
detail_of (SideTooLarge side) before = what_side side ∷ 0 ∷ 0 ∷ 0 ∷ []
detail_of (SideNotMultipleOf4 side) before = what_side side ∷ 0 ∷ 0 ∷ 0 ∷ []
detail_of (SampleIsNan i) before = 0 ∷ i ∷ 0 ∷ 0 ∷ []
detail_of (TileSampleIsNan spot) before = 0 ∷ spot.index ∷ spot.row ∷ spot.column ∷ []
detail_of (DdsHeader field) before = what_of field ∷ 0 ∷ 0 ∷ 0 ∷ []
detail_of (InChannel fault) before = fault_detail fault
detail_of SampleCount before = before
detail_of EncodedLength before = before
detail_of OutputLength before = before
detail_of DitheredResend before = before
detail_of NoSuchBlock before = before
detail_of WordMalformed before = before
detail_of DdsBody before = before
detail_of EditionReused before = before
detail_of EditionOpposite before = before

-- ---- what a call answers: its value, or the refusal that stands in its place; and that without the value, as checks alone answer
abbrev pub Answer : Type 0 → Type 0
Answer A = Result A Refusal

abbrev pub Checked : Type 0
Checked = Answer ⊤

abbrev pub refusal_in : {A : Type 0} → Answer A → Checked
refusal_in (Ok value) = Ok tt
refusal_in (Err q) = Err q

-- ---- a check: a refusal, and whether it applies
pub record Check : Type 0 where
  pub refusal : Refusal
  pub applies : Bool

abbrev pub when : Refusal → Bool → Check
when refusal applies = record { refusal = refusal; applies = applies }

-- the first check of a list that applies
unfoldable pub first_of : List Check → Checked
first_of [] = Ok tt
first_of (c ∷ cs) = cond c.applies (Err c.refusal) (first_of cs)

-- What a call answers, or leaves in lent memory: what it makes of a refusal, and its value where all checks passed.
abbrev pub answered : {A : Type 0} → (Refusal → A) → A → Checked → A
answered refused value (Ok tt) = value
answered refused value (Err q) = refused q

-- ---- each check once
-- the index of the first NaN, or the length where there is none
unfoldable pub first_nan : List Float → ℕ
first_nan [] = 0
first_nan (x ∷ s) = cond (is_nan x) 0 (suc (first_nan s))

abbrev pub count_check : List Float → ℕ → Check
count_check samples n = when SampleCount (not (eqb (length samples) n))

abbrev pub length_check : ℕ → ℕ → Check
length_check long n = when EncodedLength (not (eqb long n))

abbrev pub room_check : ℕ → ℕ → Check
room_check room n = when OutputLength (ltb room n)

abbrev pub dither_check : Options → Check
dither_check o = when DitheredResend o.dither

abbrev pub place_check : ℕ → ℕ → ℕ → ℕ → Check
place_check width height column row = when NoSuchBlock (no_block width height column row)

abbrev pub nan_check : List Float → Check
nan_check samples = when (SampleIsNan (first_nan samples)) (ltb (first_nan samples) (length samples))

-- where a sample of a tile stands
abbrev pub spot_of : ℕ → ℕ → Spot
spot_of width i = record { index = i; row = i / width; column = i % width }

abbrev pub tile_nan_check : List Float → ℕ → Check
tile_nan_check samples width = when (TileSampleIsNan (spot_of width (first_nan samples))) (ltb (first_nan samples) (length samples))

-- ---- of one of two channels: each applies as it does where there is one, and says the channel besides
abbrev pub count_in : Channel → List Float → ℕ → Check
count_in channel samples n = when (InChannel (Count channel)) (count_check samples n).applies

abbrev pub nan_in : Channel → List Float → Check
nan_in channel samples = when (InChannel (Nan channel (first_nan samples))) (nan_check samples).applies

abbrev pub tile_nan_in : Channel → List Float → ℕ → Check
tile_nan_in channel samples width = when (InChannel (TileNan channel (spot_of width (first_nan samples)))) (tile_nan_check samples width).applies

-- ---- the checks of a size, which every call that has one makes: by number, and of one number the width before the height
unfoldable pub size_checks : ℕ → ℕ → List Check
size_checks width height =
    when (SideIsZero Width) (eqb width 0) ∷ when (SideIsZero Height) (eqb height 0)
    ∷ when (SideTooLarge Width) (ltb longest_side width) ∷ when (SideTooLarge Height) (ltb longest_side height)
    ∷ when (SideNotMultipleOf4 Width) (not (eqb (width % 4) 0)) ∷ when (SideNotMultipleOf4 Height) (not (eqb (height % 4) 0)) ∷ []

-- of the bytes of a tile: its size, and then their count; `size` is the bytes of a block
abbrev pub bytes_checks_of : ℕ → ℕ → ℕ → ℕ → List Check
bytes_checks_of size long width height = size_checks width height ++ length_check long (encoded_length size width height) ∷ []

abbrev pub bytes_checks : ℕ → ℕ → ℕ → List Check
bytes_checks = bytes_checks_of bc4_size

-- of a block of a tile; `long` is the length of the tile
abbrev pub view_checks_of : ℕ → ℕ → ℕ → ℕ → ℕ → ℕ → List Check
view_checks_of size long width height column row = bytes_checks_of size long width height ++ place_check width height column row ∷ []

-- ---- the checks of each call
abbrev pub encode_checks : List Float → List Check
encode_checks samples = count_check samples 16 ∷ nan_check samples ∷ []

abbrev pub decode_checks : List ℕ → List Check
decode_checks encoded = length_check (length encoded) bc4_size ∷ []

abbrev pub error_checks : List Float → List ℕ → List Check
error_checks samples encoded = count_check samples 16 ∷ length_check (length encoded) bc4_size ∷ nan_check samples ∷ []

abbrev pub resend_checks : List Float → List ℕ → Options → List Check
resend_checks samples held o = count_check samples 16 ∷ length_check (length held) bc4_size ∷ dither_check o ∷ nan_check samples ∷ []

-- `room` is the length of the output
abbrev pub tile_checks : List Float → ℕ → ℕ → ℕ → List Check
tile_checks samples width height room =
    size_checks width height ++ count_check samples (width * height) ∷ room_check room (encoded_length bc4_size width height) ∷ tile_nan_check samples width ∷ []

abbrev pub view_checks : ℕ → ℕ → ℕ → ℕ → ℕ → List Check
view_checks = view_checks_of bc4_size

-- a call's checks, and after all of them that of its options word
abbrev pub and_word : List Check → Bool → List Check
and_word checks malformed = checks ++ when WordMalformed malformed ∷ []

-- the refusal of a call whose word is malformed: 8 where it is refused for nothing else
abbrev pub or_malformed : Checked → Refusal
or_malformed = answered (λ q. q) WordMalformed
