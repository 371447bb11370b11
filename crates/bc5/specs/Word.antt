-- The calls on two channels that take their options as a word, as `bc4` reads it; 8 is refused after all others.
use Rattle.bc5.specs.declared.Halves.{Halves}
use Rattle.bc5.specs.declared.Kept.{Kept}
use Rattle.std.specs.Prelude.{List, ℕ, Float}
use Rattle.place.specs.Place.{bc5_size, encoded_length}
use Rattle.refusal.specs.Refusals.{Answer, first_of, answered, and_word}
use Rattle.bc4.specs.declared.word.Word.{Word}
use Rattle.std.specs.declared.result.Result.TheVariants.{Ok, Err}
use Rattle.bc5.specs.Checks.{encode_checks, resend_checks, tile_checks}
use Rattle.bc5.specs.Calls.{coded_of, kept_of}

abbrev pub encode_by_word : List Float → List Float → Word → Answer Halves
encode_by_word first second w =
    answered Err (Ok (coded_of first second w.options)) (first_of (and_word (encode_checks first second) w.malformed))

abbrev pub resend_by_word : List Float → List Float → List ℕ → Word → Answer Kept
resend_by_word first second held w =
    answered Err (Ok (kept_of first second held w.options)) (first_of (and_word (resend_checks first second held w.options) w.malformed))

-- `room` is the length of the output
abbrev pub tile_by_word : List Float → List Float → ℕ → ℕ → Word → ℕ → Answer ℕ
tile_by_word first second width height w room =
    answered Err (Ok (encoded_length bc5_size width height)) (first_of (and_word (tile_checks first second width height room) w.malformed))
