-- Demand 1: a refusal is exactly the numbered one of its call's table, and changes no byte of a lent buffer. Each call has its conditions as a list, in the
-- order in which they are looked at; the answers are those that the contracts of `bc4`, `bc5`, `dds` and `station` cite. That every call ends with an answer, for every input, is what a contract
-- without `requires` says.
use Rattle.std.specs.Prelude.{◌≡◌, Bool, true, List, [], ◌∷◌, ◌++◌, ℕ, ◌+◌, ◌*◌, ◌/◌, ◌<◌, length, Float}
use Rattle.options.specs.declared.Options.{Options}
use Rattle.refusal.specs.declared.Refusal.{Refusal}
use Rattle.refusal.specs.declared.Refusal.TheVariants.{SampleCount, EncodedLength, OutputLength, DitheredResend, NoSuchBlock, WordMalformed, DdsBody, EditionReused, EditionOpposite}
use Rattle.refusal.specs.declared.Field.TheVariants.{Header, Extension, Magic, HeaderSize, FourCharacters, ExtensionFormat, MipCount, Depth, CubeFaces, ArraySize}
use Rattle.std.specs.declared.result.Result.TheVariants.{Err}
use Rattle.refusal.specs.Refusals.{refusal_in, first_of, decode_checks, view_checks}
use Rattle.bc4.specs.Word.{word_of, encode_by_word, resend_by_word, tile_by_word}
use Rattle.bc4.specs.Calls.{encode_answer, samples_after, error_answer, resend_answer, tile_answer, out_after, view_of}
use Rattle.bc5.specs.Checks.{decode_checks as pair_decode_checks, view_checks as pair_view_checks}
use Rattle.bc5.specs.Word.{encode_by_word as pair_encode_by_word, resend_by_word as pair_resend_by_word, tile_by_word as pair_tile_by_word}
use Rattle.bc5.specs.Calls.{encode_answer as pair_encode_answer, error_answer as pair_error_answer, resend_answer as pair_resend_answer, tile_answer as pair_tile_answer, out_after as pair_out_after, view_of as pair_view_of}
use Rattle.dds.specs.Layout.{dds_magic, bc4u, bc4s, dx10}
use Rattle.dds.specs.Checks.{read_checks}
use Rattle.dds.specs.Calls.{write_answer, file_after, read_answer, body_of}
use Rattle.station.specs.Editions.{Message, Held, entry_at, bytes_at}
use Rattle.station.specs.Receiving.{receive_answer, tile_after, editions_after}
use Rattle.demands.specs.Exactly.{Condition, When, WhenUnequal, Exactly, InNumberOrder}
use Rattle.demands.specs.Conditions.{Missing, BadWord, WhenNan, SizeRefuses, WhenTileNan, field, four, WhenWrong, NoneOf, CubeFace, BadBody, Reused, Opposite}
use Rattle.demands.specs.Channels.{PairEncodeRefuses, PairDecodeRefuses, PairErrorRefuses, PairResendRefuses, PairTileRefuses, PairViewRefuses}

-- ---- which conditions each call looks at, and in which order. Encode: 2, 7
abbrev pub EncodeRefuses : List Float → List Condition
EncodeRefuses samples = WhenUnequal SampleCount (length samples) 16 ∷ WhenNan samples ∷ []

-- decode: 3
abbrev pub DecodeRefuses : List ℕ → List Condition
DecodeRefuses encoded = WhenUnequal EncodedLength (length encoded) 8 ∷ []

-- block error: 2, 3, 7
abbrev pub ErrorRefuses : List Float → List ℕ → List Condition
ErrorRefuses samples encoded = WhenUnequal SampleCount (length samples) 16 ∷ WhenUnequal EncodedLength (length encoded) 8 ∷ WhenNan samples ∷ []

-- resend: 2, 3, 5, 7
abbrev pub ResendRefuses : List Float → List ℕ → Options → List Condition
ResendRefuses samples held o =
    WhenUnequal SampleCount (length samples) 16 ∷ WhenUnequal EncodedLength (length held) 8 ∷ When DitheredResend (o.dither ≡ true) ∷ WhenNan samples ∷ []

-- encode tile: 1, 9, 10, 2, 4, 7
abbrev pub TileRefuses : List Float → ℕ → ℕ → List ℕ → List Condition
TileRefuses samples width height out =
    SizeRefuses width height ++ WhenUnequal SampleCount (length samples) (width * height) ∷ When OutputLength (length out < width * height / 2)
    ∷ WhenTileNan samples width height ∷ []

-- view: 1, 9, 10, 3, 6
abbrev pub ViewRefuses : List ℕ → ℕ → ℕ → ℕ → ℕ → List Condition
ViewRefuses tile width height column row =
    SizeRefuses width height ++ WhenUnequal EncodedLength (length tile) (width * height / 2) ∷ When NoSuchBlock (Missing width height column row) ∷ []

-- with a word for the options: what the call refuses, and then 8
abbrev pub ThenBadWord : List Condition → ℕ → ℕ → List Condition
ThenBadWord conditions quality last = conditions ++ When WordMalformed (BadWord quality last) ∷ []

-- write a DDS file: 1, 9, 10, 3, 4
abbrev pub WriteRefuses : List ℕ → ℕ → ℕ → List ℕ → List Condition
WriteRefuses tile width height out =
    SizeRefuses width height ++ WhenUnequal EncodedLength (length tile) (width * height / 2) ∷ When OutputLength (length out < 128 + width * height / 2) ∷ []

-- read one: 11, 12, 13, 14, with the field that is wrong, 1, 9, 10, 15; inside a number fields come in the order of the document's sentence
abbrev pub ReadRefuses : List ℕ → List Condition
ReadRefuses file =
    WhenWrong Header (length file < 128) ∷ WhenWrong Extension ((four file ≡ dx10) × (length file < 148))
    ∷ WhenWrong Magic (field file 0 ≡ dds_magic → ⊥) ∷ WhenWrong HeaderSize (field file 4 ≡ 124 → ⊥)
    ∷ WhenWrong FourCharacters (NoneOf (four file) (bc4u ∷ bc4s ∷ dx10 ∷ [])) ∷ WhenWrong ExtensionFormat ((four file ≡ dx10) × NoneOf (field file 128) (80 ∷ 81 ∷ []))
    ∷ WhenWrong MipCount (1 < field file 28) ∷ WhenWrong Depth (1 < field file 24) ∷ WhenWrong CubeFaces (CubeFace (field file 112))
    ∷ WhenWrong ArraySize ((four file ≡ dx10) × (field file 140 ≡ 1 → ⊥))
    ∷ (SizeRefuses (field file 16) (field file 12) ++ When DdsBody (BadBody file) ∷ [])

-- receive a message: 1, 9, 10, 3 of the tile, of the record and of the message, 6, 16, 17
abbrev pub ReceiveRefuses : Held → ℕ → ℕ → Message → List Condition
ReceiveRefuses held width height m =
    SizeRefuses width height ++ WhenUnequal EncodedLength (length held.tile) (width * height / 2)
    ∷ WhenUnequal EncodedLength (length held.editions) (width * height / 16) ∷ WhenUnequal EncodedLength (length m.block) 8
    ∷ When NoSuchBlock (Missing width height m.column m.row)
    ∷ When EditionReused (Reused (entry_at held width m.column m.row) m.edition (bytes_at held width m.column m.row) m.block)
    ∷ When EditionOpposite (Opposite (entry_at held width m.column m.row) m.edition) ∷ []

pub record Demand1 : Type 0 where
  pub encode : (samples : List Float) (o : Options) → InNumberOrder (refusal_in (encode_answer samples o)) (EncodeRefuses samples)
  pub decode : (encoded : List ℕ) → InNumberOrder (first_of (decode_checks encoded)) (DecodeRefuses encoded)
  pub error : (samples : List Float) (encoded : List ℕ) (snorm : Bool) → InNumberOrder (refusal_in (error_answer samples encoded snorm)) (ErrorRefuses samples encoded)
  pub resend : (samples : List Float) (held : List ℕ) (o : Options) → InNumberOrder (refusal_in (resend_answer samples held o)) (ResendRefuses samples held o)
  -- where there is a size, 9 and 10 come straight after 1, and so before 2
  pub tile : (samples : List Float) (width height : ℕ) (out : List ℕ)
      → Exactly (refusal_in (tile_answer samples width height (length out))) (TileRefuses samples width height out)
  pub view : (tile : List ℕ) (width height column row : ℕ)
      → Exactly (first_of (view_checks (length tile) width height column row)) (ViewRefuses tile width height column row)
  -- the calls that take a word, for every four bytes; the program has the first of them
  pub encode_word : (samples : List Float) (flags limit quality last : ℕ)
      → InNumberOrder (refusal_in (encode_by_word samples (word_of flags limit quality last))) (ThenBadWord (EncodeRefuses samples) quality last)
  pub resend_word : (samples : List Float) (held : List ℕ) (flags limit quality last : ℕ)
      → let w = word_of flags limit quality last in
      InNumberOrder (refusal_in (resend_by_word samples held w)) (ThenBadWord (ResendRefuses samples held w.options) quality last)
  pub tile_word : (samples : List Float) (width height : ℕ) (out : List ℕ) (flags limit quality last : ℕ)
      → Exactly (refusal_in (tile_by_word samples width height (word_of flags limit quality last) (length out)))
      (ThenBadWord (TileRefuses samples width height out) quality last)
  -- two channels
  pub pair_encode : (first second : List Float) (o : Options) → InNumberOrder (refusal_in (pair_encode_answer first second o)) (PairEncodeRefuses first second)
  pub pair_decode : (encoded : List ℕ) → InNumberOrder (first_of (pair_decode_checks encoded)) (PairDecodeRefuses encoded)
  pub pair_error_lem : (first second : List Float) (encoded : List ℕ) (snorm : Bool)
      → InNumberOrder (refusal_in (pair_error_answer first second encoded snorm)) (PairErrorRefuses first second encoded)
  pub pair_resend : (first second : List Float) (held : List ℕ) (o : Options)
      → InNumberOrder (refusal_in (pair_resend_answer first second held o)) (PairResendRefuses first second held o)
  pub pair_tile : (first second : List Float) (width height : ℕ) (out : List ℕ)
      → Exactly (refusal_in (pair_tile_answer first second width height (length out))) (PairTileRefuses first second width height out)
  pub pair_view : (tile : List ℕ) (width height column row : ℕ)
      → Exactly (first_of (pair_view_checks (length tile) width height column row)) (PairViewRefuses tile width height column row)
  pub pair_encode_word : (first second : List Float) (flags limit quality last : ℕ)
      → InNumberOrder (refusal_in (pair_encode_by_word first second (word_of flags limit quality last))) (ThenBadWord (PairEncodeRefuses first second) quality last)
  pub pair_resend_word : (first second : List Float) (held : List ℕ) (flags limit quality last : ℕ)
      → let w = word_of flags limit quality last in
      InNumberOrder (refusal_in (pair_resend_by_word first second held w)) (ThenBadWord (PairResendRefuses first second held w.options) quality last)
  pub pair_tile_word : (first second : List Float) (width height : ℕ) (out : List ℕ) (flags limit quality last : ℕ)
      → Exactly (refusal_in (pair_tile_by_word first second width height (word_of flags limit quality last) (length out)))
      (ThenBadWord (PairTileRefuses first second width height out) quality last)
  -- DDS files
  pub write_dds : (tile : List ℕ) (width height : ℕ) (out : List ℕ)
      → Exactly (refusal_in (write_answer (length tile) width height (length out))) (WriteRefuses tile width height out)
  pub read_dds : (file : List ℕ) → Exactly (refusal_in (read_answer file)) (ReadRefuses file)
  -- the companion of a read tells the same refusal
  pub read_dds_refusal : (file : List ℕ) → first_of (read_checks file) ≡ refusal_in (read_answer file)
  -- a station; a clear refuses nothing
  pub receive : (held : Held) (width height : ℕ) (m : Message) → Exactly (refusal_in (receive_answer held width height m)) (ReceiveRefuses held width height m)
  -- a refused call leaves lent memory as it was, a tile call by word too (`out_after` of the word's options), and a refused view is empty;
  -- `decode_leaves` is for both channels' arrays too
  pub decode_leaves : (q : Refusal) (encoded : List ℕ) (snorm : Bool) (before : List Float) → samples_after (Err q) encoded snorm before ≡ before
  pub tile_leaves : (q : Refusal) (samples : List Float) (width height : ℕ) (o : Options) (before : List ℕ)
      → out_after (Err q) samples width height o before ≡ before
  pub view_empty : (q : Refusal) (tile : List ℕ) (width height column row : ℕ)
      → first_of (view_checks (length tile) width height column row) ≡ Err q → view_of tile width height column row ≡ []
  pub pair_tile_leaves : (q : Refusal) (first second : List Float) (width height : ℕ) (o : Options) (before : List ℕ)
      → pair_out_after (Err q) first second width height o before ≡ before
  pub pair_view_empty : (q : Refusal) (tile : List ℕ) (width height column row : ℕ)
      → first_of (pair_view_checks (length tile) width height column row) ≡ Err q → pair_view_of tile width height column row ≡ []
  pub write_dds_leaves : (q : Refusal) (tile : List ℕ) (width height : ℕ) (snorm : Bool) (before : List ℕ)
      → file_after (Err q) tile width height snorm before ≡ before
  pub read_dds_empty : (q : Refusal) (file : List ℕ) → first_of (read_checks file) ≡ Err q → body_of file ≡ []
  pub receive_leaves : (q : Refusal) (held : Held) (width : ℕ) (m : Message)
      → (tile_after (Err q) held.tile width m ≡ held.tile) × (editions_after (Err q) held.editions width m ≡ held.editions)
