-- The options as a word of four bytes. Document 01, "The program":
--   byte 0  flags, bits 0 to 7: dither, snorm, brute_force, use_inter4, use_inter4_heuristic, fast_iter, size_variations, iter_initial_inter4
--   byte 1  max_refine_iter
--   byte 2  0 Round, 1 medium, 2 high
--   byte 3  0
-- Any other value of bytes 2 and 3 makes the word malformed: refusal 8, after all others.
use Rattle.bc4.specs.declared.Kept.{Kept}
use Rattle.std.specs.Prelude.{Bool, cond, not, ◌||◌, List, ℕ, ◌/◌, ◌%◌, ◌^◌, eqb, ltb, Float}
use Rattle.options.specs.declared.Options.{Options}
use Rattle.options.specs.declared.Quantization.{Quantization}
use Rattle.options.specs.declared.Quantization.TheVariants.{Round, MediumQuality, HighQuality}
use Rattle.bc4.specs.declared.word.Word.{Word}
use Rattle.std.specs.declared.result.Result.TheVariants.{Ok, Err}
use Rattle.index_list.specs.Layout.{from_bytes}
use Rattle.encode.specs.Encoder.{compressed}
use Rattle.place.specs.Place.{bc4_size, encoded_length}
use Rattle.refusal.specs.Refusals.{Answer, first_of, answered, encode_checks, resend_checks, tile_checks, and_word}
use Rattle.bc4.specs.Calls.{better_of}

-- whether bit k of the flags is set
abbrev pub flag : ℕ → ℕ → Bool
flag flags k = eqb (flags / 2 ^ k % 2) 1

unfoldable pub options_of : ℕ → ℕ → Quantization → Options
options_of flags limit quality = record {
  dither = flag flags 0;
  snorm = flag flags 1;
  brute_force = flag flags 2;
  use_inter4 = flag flags 3;
  use_inter4_heuristic = flag flags 4;
  quantization = quality;
  fast_iter = flag flags 5;
  max_refine_iter = limit;
  size_variations = flag flags 6;
  iter_initial_inter4 = flag flags 7;
}

abbrev pub quality_of : ℕ → Quantization
quality_of byte = cond (eqb byte 0) Round (cond (eqb byte 1) MediumQuality HighQuality)

unfoldable pub word_of : ℕ → ℕ → ℕ → ℕ → Word
word_of flags limit quality last = record { options = options_of flags limit (quality_of quality); malformed = ltb 2 quality || not (eqb last 0) }

-- ---- the calls that take a word
abbrev pub encode_by_word : List Float → Word → Answer ℕ
encode_by_word samples w = answered Err (Ok (compressed samples w.options)) (first_of (and_word (encode_checks samples) w.malformed))

abbrev pub resend_by_word : List Float → List ℕ → Word → Answer Kept
resend_by_word samples held w =
    answered Err (Ok (better_of samples (from_bytes held) w.options)) (first_of (and_word (resend_checks samples held w.options) w.malformed))

-- `room` is the length of the output
abbrev pub tile_by_word : List Float → ℕ → ℕ → Word → ℕ → Answer ℕ
tile_by_word samples width height w room =
    answered Err (Ok (encoded_length bc4_size width height)) (first_of (and_word (tile_checks samples width height room) w.malformed))
