-- Document 02, 1/12: what writing and reading answer, and what they leave in lent memory.
use Rattle.std.specs.Prelude.{Bool, List, [], ◌++◌, ℕ, ◌+◌, eqb, drop}
use Rattle.place.specs.Place.{bc4_size, encoded_length}
use Rattle.std.specs.declared.result.Result.TheVariants.{Ok, Err}
use Rattle.refusal.specs.Refusals.{Answer, first_of, answered}
use Rattle.dds.specs.declared.Picture.{Picture}
use Rattle.dds.specs.Layout.{header_length, signed_format, file_of, height_in, width_in, format_in, body_at}
use Rattle.dds.specs.Checks.{write_checks, read_checks}

-- ---- writing; `long` is the length of the tile, `room` that of the output
abbrev pub write_answer : ℕ → ℕ → ℕ → ℕ → Answer ℕ
write_answer long width height room = answered Err (Ok (header_length + encoded_length bc4_size width height)) (first_of (write_checks long width height room))

-- the output after the call: the file, and then what was there before
abbrev pub file_after : Answer ℕ → List ℕ → ℕ → ℕ → Bool → List ℕ → List ℕ
file_after (Ok n) tile width height snorm before = file_of tile width height snorm ++ drop n before
file_after (Err q) tile width height snorm before = before

-- ---- reading
unfoldable pub picture_in : List ℕ → Picture
picture_in file = record { width = width_in file; height = height_in file; snorm = eqb (format_in file) signed_format; start = body_at file }

abbrev pub read_answer : List ℕ → Answer Picture
read_answer file = answered Err (Ok (picture_in file)) (first_of (read_checks file))

-- the tile's bytes, a part of the file
abbrev pub body_of : List ℕ → List ℕ
body_of file = answered (λ q. []) (drop (body_at file) file) (first_of (read_checks file))
