-- Document 02, 5/12: what receiving a message checks, what it answers and what it leaves in the tile and the record; and what clearing leaves.
use Rattle.std.specs.Prelude.{Bool, true, false, not, cond, ◌&&◌, List, [], ◌∷◌, ◌++◌, ℕ, ◌+◌, ltb, eqb, length, take, drop, set, replicate}
use Rattle.place.specs.Place.{bc4_size, encoded_length, block_at}
use Rattle.refusal.specs.declared.Refusal.TheVariants.{EditionReused, EditionOpposite}
use Rattle.std.specs.declared.result.Result.TheVariants.{Ok, Err}
use Rattle.refusal.specs.Refusals.{Answer, Check, when, first_of, answered, length_check, place_check, bytes_checks}
use Rattle.station.specs.declared.Received.{Received}
use Rattle.station.specs.declared.Received.TheVariants.{Taken, Repeated, Replaced, Old}
use Rattle.station.specs.Editions.{Message, Held, entry_size, entry_at, bytes_at, halfway, is_empty, edition_in, entry_of, ahead, alike}

-- ---- checks: 1, 9, 10, 3 of the tile, of the record and of the message, 6, 16, 17. `long`, `entries` and `count` are these three lengths.
abbrev pub shape_checks : ℕ → ℕ → ℕ → ℕ → ℕ → ℕ → ℕ → List Check
shape_checks long entries count width height column row =
    bytes_checks long width height ++ length_check entries (encoded_length entry_size width height) ∷ length_check count bc4_size ∷ place_check width height column row ∷ []

-- at a place that is not empty
abbrev pub edition_checks : ℕ → ℕ → List ℕ → List ℕ → List Check
edition_checks entry edition bytes block =
    when EditionReused (not (is_empty entry) && (eqb (ahead edition (edition_in entry)) 0 && not (alike bytes block bc4_size)))
    ∷ when EditionOpposite (not (is_empty entry) && eqb (ahead edition (edition_in entry)) halfway) ∷ []

abbrev pub fit_checks : Held → ℕ → ℕ → Message → List Check
fit_checks held width height m = shape_checks (length held.tile) (length held.editions) (length m.block) width height m.column m.row

abbrev pub held_checks : Held → ℕ → Message → List Check
held_checks held width m = edition_checks (entry_at held width m.column m.row) m.edition (bytes_at held width m.column m.row) m.block

abbrev pub receive_checks : Held → ℕ → ℕ → Message → List Check
receive_checks held width height m = fit_checks held width height m ++ held_checks held width m

-- ---- what becomes of a message that is not refused: taken by an empty place; else what the difference says
abbrev pub becomes : ℕ → ℕ → Received
becomes entry edition =
    cond (is_empty entry) Taken (cond (eqb (ahead edition (edition_in entry)) 0) Repeated (cond (ltb (ahead edition (edition_in entry)) halfway) Replaced Old))

abbrev pub receive_answer : Held → ℕ → ℕ → Message → Answer Received
receive_answer held width height m =
    answered Err (Ok (becomes (entry_at held width m.column m.row) m.edition)) (first_of (receive_checks held width height m))

-- ---- what is held after it: a message that is taken, or that replaces, puts its bytes and its edition at its place; any other changes nothing
abbrev pub changes : Answer Received → Bool
changes (Ok Taken) = true
changes (Ok Repeated) = false
changes (Ok Replaced) = true
changes (Ok Old) = false
changes (Err q) = false

abbrev pub bytes_put : List ℕ → ℕ → List ℕ → List ℕ
bytes_put tile at block = take at tile ++ (block ++ drop (at + bc4_size) tile)

abbrev pub tile_after : Answer Received → List ℕ → ℕ → Message → List ℕ
tile_after answer tile width m = cond (changes answer) (bytes_put tile (block_at bc4_size width m.column m.row) m.block) tile

abbrev pub editions_after : Answer Received → List ℕ → ℕ → Message → List ℕ
editions_after answer editions width m = cond (changes answer) (set editions (block_at entry_size width m.column m.row) (entry_of m.edition)) editions

-- ---- clearing: every place is empty, and the tile stays
abbrev pub cleared : List ℕ → List ℕ
cleared editions = replicate (length editions) 0
