-- Document 01, "Calls and numbers": what each call answers, and what it leaves in lent memory: a call is a list of checks and a value. Where a check
-- refuses there is no value, and lent memory stays as it was.
use Rattle.std.specs.Prelude.{Bool, true, false, cond, List, [], ◌++◌, ℕ, length, take, drop, Float}
use Rattle.std.specs.Float.Ieee.{lt}
use Rattle.index_list.specs.Layout.{from_bytes}
use Rattle.options.specs.declared.Options.{Options}
use Rattle.encode.specs.Encoder.{compressed}
use Rattle.decode.specs.Meaning.{decoded}
use Rattle.decode.specs.BlockError.{block_error}
use Rattle.place.specs.Place.{bc4_size, encoded_length, block_at}
use Rattle.tile.specs.Tile.{tile_bytes}
use Rattle.std.specs.declared.result.Result.TheVariants.{Ok, Err}
use Rattle.bc4.specs.declared.Kept.{Kept}
use Rattle.refusal.specs.Refusals.{Answer, Checked, refusal_in, first_of, answered, encode_checks, error_checks, resend_checks, tile_checks, view_checks}

-- ---- encode block
abbrev pub encode_answer : List Float → Options → Answer ℕ
encode_answer samples o = answered Err (Ok (compressed samples o)) (first_of (encode_checks samples))

-- ---- decode: the samples that the lent array holds after the call
abbrev pub samples_after : Checked → List ℕ → Bool → List Float → List Float
samples_after checked encoded snorm before = answered (λ q. before) (decoded (from_bytes encoded) snorm) checked

-- ---- block error
abbrev pub error_answer : List Float → List ℕ → Bool → Answer Float
error_answer samples encoded snorm = answered Err (Ok (block_error samples (from_bytes encoded) snorm)) (first_of (error_checks samples encoded))

-- ---- resend: the fresh bytes exactly when their block error is strictly below that of the held ones
unfoldable pub better_of : List Float → ℕ → Options → Kept
better_of samples held o =
    let fresh = compressed samples o in
    cond (lt (block_error samples fresh o.snorm) (block_error samples held o.snorm)) (record { block = fresh; fresh = true })
    (record { block = held; fresh = false })

abbrev pub resend_answer : List Float → List ℕ → Options → Answer Kept
resend_answer samples held o = answered Err (Ok (better_of samples (from_bytes held) o)) (first_of (resend_checks samples held o))

-- ---- encode tile; `room` is the length of the output
abbrev pub tile_answer : List Float → ℕ → ℕ → ℕ → Answer ℕ
tile_answer samples width height room = answered Err (Ok (encoded_length bc4_size width height)) (first_of (tile_checks samples width height room))

-- the output after the call: the blocks, and then what was there before
abbrev pub out_after : Answer ℕ → List Float → ℕ → ℕ → Options → List ℕ → List ℕ
out_after answer samples width height o before =
    answered (λ q. before) (tile_bytes samples width height o ++ drop (encoded_length bc4_size width height) before) (refusal_in answer)

-- ---- block view
abbrev pub view_of : List ℕ → ℕ → ℕ → ℕ → ℕ → List ℕ
view_of tile width height column row =
    answered (λ q. []) (take bc4_size (drop (block_at bc4_size width column row) tile)) (first_of (view_checks (length tile) width height column row))
