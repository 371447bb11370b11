-- Document 02, 3/12: what each call on two channels checks: the lists of one channel, with encoded lengths doubled. Where a list looks at samples, the first
-- channel's are looked at and then the second's, and the refusal says which.
use Rattle.std.specs.Prelude.{List, [], ◌∷◌, ◌++◌, ℕ, ◌*◌, length, Float}
use Rattle.options.specs.declared.Options.{Options}
use Rattle.place.specs.Place.{bc5_size, encoded_length}
use Rattle.refusal.specs.declared.Channel.TheVariants.{First, Second}
use Rattle.refusal.specs.Refusals.{Check, count_in, nan_in, tile_nan_in, length_check, room_check, dither_check, size_checks, view_checks_of}

-- ---- both channels
abbrev pub nan_checks : List Float → List Float → List Check
nan_checks first second = nan_in First first ∷ nan_in Second second ∷ []

abbrev pub tile_nan_checks : List Float → List Float → ℕ → List Check
tile_nan_checks first second width = tile_nan_in First first width ∷ tile_nan_in Second second width ∷ []

-- both counts, and then what the call looks at besides
abbrev pub counted : List Float → List Float → ℕ → List Check → List Check
counted first second n rest = count_in First first n ∷ count_in Second second n ∷ rest

-- ---- the checks of each call
abbrev pub encode_checks : List Float → List Float → List Check
encode_checks first second = counted first second 16 (nan_checks first second)

abbrev pub decode_checks : List ℕ → List Check
decode_checks encoded = length_check (length encoded) bc5_size ∷ []

abbrev pub error_checks : List Float → List Float → List ℕ → List Check
error_checks first second encoded = counted first second 16 (length_check (length encoded) bc5_size ∷ nan_checks first second)

abbrev pub resend_checks : List Float → List Float → List ℕ → Options → List Check
resend_checks first second held o = counted first second 16 (length_check (length held) bc5_size ∷ dither_check o ∷ nan_checks first second)

-- `room` is the length of the output
abbrev pub tile_checks : List Float → List Float → ℕ → ℕ → ℕ → List Check
tile_checks first second width height room =
    size_checks width height ++ counted first second (width * height) (room_check room (encoded_length bc5_size width height) ∷ tile_nan_checks first second width)

-- `long` is the length of the tile
abbrev pub view_checks : ℕ → ℕ → ℕ → ℕ → ℕ → List Check
view_checks = view_checks_of bc5_size
