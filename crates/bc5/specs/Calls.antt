-- Document 02, 3/12: what each call on two channels answers, and what it leaves in lent memory. Each half is BC4's own definition on its channel: `compressed`,
-- `decoded`, `block_error`, `better_of`, `block_bytes`. Where a check refuses, of either channel, there is no value, and lent memory stays as it was.
use Rattle.std.specs.Prelude.{Bool, List, [], ◌++◌, ℕ, length, take, drop, Float}
use Rattle.index_list.specs.Layout.{bytes_of, from_bytes}
use Rattle.options.specs.declared.Options.{Options}
use Rattle.encode.specs.Encoder.{compressed}
use Rattle.decode.specs.BlockError.{block_error}
use Rattle.place.specs.Place.{bc4_size, bc5_size, encoded_length, block_at, all_bytes}
use Rattle.tile.specs.Tile.{pair_bytes}
use Rattle.std.specs.declared.result.Result.TheVariants.{Ok, Err}
use Rattle.refusal.specs.Refusals.{Answer, refusal_in, first_of, answered}
use Rattle.bc4.specs.Calls.{better_of}
use Rattle.bc5.specs.declared.Halves.{Halves}
use Rattle.bc5.specs.declared.Errors.{Errors as BothErrors}
use Rattle.bc5.specs.declared.Kept.{Kept}
use Rattle.bc5.specs.Checks.{encode_checks, error_checks, resend_checks, tile_checks, view_checks}

-- ---- sixteen bytes: the first channel's eight, and then the second's
abbrev pub first_half : List ℕ → List ℕ
first_half encoded = take bc4_size encoded

abbrev pub second_half : List ℕ → List ℕ
second_half encoded = take bc4_size (drop bc4_size encoded)

abbrev pub halves_bytes : Halves → List ℕ
halves_bytes block = bytes_of block.first ++ bytes_of block.second

-- ---- encode block
abbrev pub coded_of : List Float → List Float → Options → Halves
coded_of first second o = record { first = compressed first o; second = compressed second o }

abbrev pub encode_answer : List Float → List Float → Options → Answer Halves
encode_answer first second o = answered Err (Ok (coded_of first second o)) (first_of (encode_checks first second))

-- ---- block error, of each channel
abbrev pub scores_of : List Float → List Float → List ℕ → Bool → BothErrors
scores_of first second encoded snorm = record { first = block_error first (from_bytes (first_half encoded)) snorm; second = block_error second (from_bytes (second_half encoded)) snorm }

abbrev pub error_answer : List Float → List Float → List ℕ → Bool → Answer BothErrors
error_answer first second encoded snorm = answered Err (Ok (scores_of first second encoded snorm)) (first_of (error_checks first second encoded))

-- ---- resend: each half by itself
abbrev pub kept_of : List Float → List Float → List ℕ → Options → Kept
kept_of first second held o = record { first = better_of first (from_bytes (first_half held)) o; second = better_of second (from_bytes (second_half held)) o }

abbrev pub resend_answer : List Float → List Float → List ℕ → Options → Answer Kept
resend_answer first second held o = answered Err (Ok (kept_of first second held o)) (first_of (resend_checks first second held o))

-- ---- encode tile; `room` is the length of the output
abbrev pub tile_answer : List Float → List Float → ℕ → ℕ → ℕ → Answer ℕ
tile_answer first second width height room =
    answered Err (Ok (encoded_length bc5_size width height)) (first_of (tile_checks first second width height room))

-- the output after the call: the blocks, and then what was there before
abbrev pub out_after : Answer ℕ → List Float → List Float → ℕ → ℕ → Options → List ℕ → List ℕ
out_after answer first second width height o before =
    answered (λ q. before) (all_bytes (pair_bytes first second width o) width height ++ drop (encoded_length bc5_size width height) before) (refusal_in answer)

-- ---- block view
abbrev pub view_of : List ℕ → ℕ → ℕ → ℕ → ℕ → List ℕ
view_of tile width height column row =
    answered (λ q. []) (take bc5_size (drop (block_at bc5_size width column row) tile)) (first_of (view_checks (length tile) width height column row))
