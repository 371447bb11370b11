-- Document 02, 3/12: demands 2 and 3 read for each half of sixteen bytes. `bc5` answers, for each channel, what BC4's own call answers for it; so what is proved
-- of BC4 holds for each half, and is cited here. Demand 1 for these calls is in `Demand1`.
use Rattle.std.specs.Prelude.{◌≡◌, Bool, true, false, List, [], ◌∷◌, ◌++◌, ℕ, ◌*◌, ◌<◌, length, take, drop, Float}
use Rattle.std.specs.Float.Ieee.{is_nan, lt}
use Rattle.floats.specs.declared.Pair.{Pair}
use Rattle.floats.specs.Arithmetic.{f0, f1}
use Rattle.index_list.specs.Layout.{byte_at, bytes_of, from_bytes, AllBytes}
use Rattle.block.specs.Samples.{pixel_at, per_pixel}
use Rattle.block.specs.Block.{entered}
use Rattle.palette.specs.declared.Kind.{Kind}
use Rattle.palette.specs.declared.Kind.TheVariants.{Six, Four}
use Rattle.options.specs.declared.Options.{Options}
use Rattle.options.specs.declared.Quantization.TheVariants.{MediumQuality, HighQuality}
use Rattle.refine.specs.Refining.{quantized_pair, quantizing}
use Rattle.encode.specs.Encoder.{searches, compressed}
use Rattle.search.specs.Covered.{Covered, pair_error, OfPair}
use Rattle.decode.specs.Meaning.{block_index}
use Rattle.decode.specs.Exact.{exact_num, exact_den, Close}
use Rattle.decode.specs.BlockError.{block_error}
use Rattle.place.specs.Place.{along, bc5_size, block_at, block_of}
use Rattle.std.specs.declared.result.Result.TheVariants.{Ok, Err}
use Rattle.refusal.specs.Refusals.{Answer, first_of, decode_checks as one_decode_checks}
use Rattle.bc4.specs.declared.Kept.{Kept as OneKept}
use Rattle.bc4.specs.Calls.{samples_after, encode_answer as one_encode_answer, error_answer as one_error_answer, resend_answer as one_resend_answer}
use Rattle.bc5.specs.declared.Halves.{Halves}
use Rattle.bc5.specs.declared.Errors.{Errors as BothErrors}
use Rattle.bc5.specs.declared.Kept.{Kept}
use Rattle.bc5.specs.Checks.{decode_checks}
use Rattle.bc5.specs.Calls.{first_half, second_half, halves_bytes, coded_of, encode_answer, error_answer, resend_answer, tile_answer, out_after}
use Rattle.demands.specs.Exactly.{Iff}
use Rattle.demands.specs.Demand3.{six_start, five_start, four_start, Limits, NoLarger, AllIn, StaysOrBetter}

abbrev pub Real : List Float → Type 0
Real samples = (i : ℕ) → i < 16 → is_nan (pixel_at samples i) ≡ false

-- pixel i of the eight bytes of a half, in the array that decode was lent for it
abbrev pub NearExact : List ℕ → Bool → List Float → ℕ → Type 0
NearExact half snorm before i =
    let n = from_bytes half in
    Close (pixel_at (samples_after (Ok tt) half snorm before) i) (exact_num snorm (byte_at n 0) (byte_at n 1) (block_index n i)) (exact_den snorm (byte_at n 0) (byte_at n 1))

-- ---- what demand 3 says of a half n that was encoded from the samples of its channel
pub record HalfDemand3 (s : List Float) (o : Options) (n : ℕ) : Type 0 where
  pub made : n ≡ compressed s o
  pub six_limits : Limits Six (entered s) o (six_start (entered s))
  pub five_limits : Limits Six (entered s) o (five_start (entered s))
  pub four_limits : Limits Four (entered s) o (four_start (entered s) o)
  pub medium : (kind : Kind) (p : Pair) → NoLarger kind (entered s) (quantized_pair o.snorm p) (quantizing MediumQuality kind (entered s) o.snorm p)
  pub high : (kind : Kind) (p : Pair) → NoLarger kind (entered s) (quantized_pair o.snorm p) (quantizing HighQuality kind (entered s) o.snorm p)
  pub search_written : searches o ≡ true → OfPair (entered s) n
  pub search_none_smaller : searches o ≡ true → (w : OfPair (entered s) n) (kind : Kind) (min max : ℕ)
      → Covered (entered s) min max → lt (pair_error kind (entered s) min max) (pair_error w.kind (entered s) w.min w.max) ≡ false

-- ---- resends: the station holds the sixteen bytes that an answer hands back; a refused resend brings none
abbrev pub both_held_after : List ℕ → Answer Kept → List ℕ
both_held_after held (Ok h) = bytes_of h.first.block ++ bytes_of h.second.block
both_held_after held (Err q) = held

unfoldable pub both_series : List Float → List Float → List ℕ → List Options → List ℕ
both_series first second held [] = held
both_series first second held (o ∷ os) = both_series first second (both_held_after held (resend_answer first second held o)) os

-- the flag of a half is set exactly when its bytes are not the held ones
abbrev pub Flagged : OneKept → List ℕ → Type 0
Flagged h half = Iff (h.fresh ≡ true) (bytes_of h.block ≡ half → ⊥)

-- and exactly when its own fresh error is strictly below its own held error: the other half has no part in it
abbrev pub ByItself : OneKept → List Float → List ℕ → Options → Type 0
ByItself h s half o = Iff (h.fresh ≡ true) (lt (block_error s (compressed s o) o.snorm) (block_error s (from_bytes half) o.snorm) ≡ true)

pub record TwoChannels : Type 0 where
  -- the first channel's eight bytes, then the second's
  pub layout : (b : Halves) → (length (halves_bytes b) ≡ 16) × (first_half (halves_bytes b) ≡ bytes_of b.first) × (second_half (halves_bytes b) ≡ bytes_of b.second)
  -- the first channel all 0, the second all 1, unsigned, no search
  pub zero_and_one : (o : Options) → o.snorm ≡ false → searches o ≡ false
      → halves_bytes (coded_of (per_pixel (λ i. f0)) (per_pixel (λ i. f1)) o) ≡ 0 ∷ 0 ∷ 0 ∷ 0 ∷ 0 ∷ 0 ∷ 0 ∷ 0 ∷ 0xff ∷ 0 ∷ 0 ∷ 0 ∷ 0 ∷ 0 ∷ 0 ∷ 0 ∷ []
  -- ---- demand 2, for each half. Of sixteen samples a channel, none of them NaN:
  pub encoded : (first second : List Float) (o : Options) → length first ≡ 16 → length second ≡ 16 → Real first → Real second
      → encode_answer first second o ≡ Ok (coded_of first second o)
  -- what a call answers for both channels BC4's own call answers for each
  pub encoded_each : (first second : List Float) (o : Options) (b : Halves) → encode_answer first second o ≡ Ok b
      → (one_encode_answer first o ≡ Ok b.first) × (one_encode_answer second o ≡ Ok b.second)
  pub scored_each : (first second : List Float) (encoded : List ℕ) (snorm : Bool) (e : BothErrors) → error_answer first second encoded snorm ≡ Ok e
      → (one_error_answer first (first_half encoded) snorm ≡ Ok e.first) × (one_error_answer second (second_half encoded) snorm ≡ Ok e.second)
  pub resent_each : (first second : List Float) (held : List ℕ) (o : Options) (h : Kept) → resend_answer first second held o ≡ Ok h
      → (one_resend_answer first (first_half held) o ≡ Ok h.first) × (one_resend_answer second (second_half held) o ≡ Ok h.second)
  pub decoded_each : (encoded : List ℕ) → first_of (decode_checks encoded) ≡ Ok tt
      → (first_of (one_decode_checks (first_half encoded)) ≡ Ok tt) × (first_of (one_decode_checks (second_half encoded)) ≡ Ok tt)
  -- each decoded sample of each channel is near the exact fraction
  pub near : (encoded : List ℕ) (snorm : Bool) (first second : List Float) (i : ℕ) → i < 16
      → NearExact (first_half encoded) snorm first i × NearExact (second_half encoded) snorm second i
  -- of a tile that is not refused: width * height bytes, and at each block's place the block call's answer for its own samples of both channels
  pub tiled : (first second : List Float) (width height : ℕ) (o : Options) (out : List ℕ) (n : ℕ) → tile_answer first second width height (length out) ≡ Ok n
      → (n ≡ width * height) × ((column row : ℕ) → column < along width → row < along height
      → (b : Halves) × (encode_answer (block_of first width column row) (block_of second width column row) o ≡ Ok b)
      × (take bc5_size (drop (block_at bc5_size width column row) (out_after (Ok n) first second width height o out)) ≡ halves_bytes b))
  -- ---- demand 3, for each half
  pub each_half : (first second : List Float) (o : Options) (b : Halves) → encode_answer first second o ≡ Ok b
      → HalfDemand3 first o b.first × HalfDemand3 second o b.second
  -- from any point of a series of resends to any later one, whatever bytes are held first
  pub resends : (first second : List Float) (snorm : Bool) (held : List ℕ) → AllBytes held → (os ps : List Options) → AllIn snorm os → AllIn snorm ps
      → let earlier = both_series first second held os in
      let later = both_series first second held (os ++ ps) in
      StaysOrBetter snorm first (first_half earlier) (first_half later) × StaysOrBetter snorm second (second_half earlier) (second_half later)
  pub flagged : (first second : List Float) (held : List ℕ) → AllBytes held → (o : Options) (h : Kept) → resend_answer first second held o ≡ Ok h
      → Flagged h.first (first_half held) × Flagged h.second (second_half held)
  pub by_itself : (first second : List Float) (held : List ℕ) (o : Options) (h : Kept) → resend_answer first second held o ≡ Ok h
      → ByItself h.first first (first_half held) o × ByItself h.second second (second_half held) o
