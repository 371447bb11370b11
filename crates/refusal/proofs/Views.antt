-- A view that is not refused stands within its tile.
use mathlib.Core.Path.{◌≡◌}
use mathlib.Core.List.{List, [], ◌∷◌}
use Prim.Native.Nat.{ℕ, ◌+◌, ◌*◌, ◌≤◌}
use native.Mathlib.Omega.{arith}
use lib.ListN.{length}
use Rattle.place.specs.Place.{longest_side, along, bc5_size, block_at}
use Rattle.place.proofs.Places.{bytes_small, row_room, block_there, block_within}
use Rattle.std.specs.declared.result.Result.TheVariants.{Ok}
use Rattle.refusal.specs.Refusals.{first_of, place_check, bytes_checks_of, view_checks_of}
use Rattle.refusal.proofs.Firsts.{first_clear, both_passed}
use Rattle.refusal.proofs.Tiles.{bytes_passed}

-- so that its place is a number that a word holds
abbrev pub InTile : ℕ → List ℕ → ℕ → ℕ → ℕ → Type 0
InTile size tile width column row =
    (row * along width + column ≤ longest_side * longest_side) × (block_at size width column row + size ≤ length tile) × (length tile ≤ longest_side * longest_side)

pub view_room : {size : ℕ} → size ≤ bc5_size → (tile : List ℕ) (width height column row : ℕ) → first_of (view_checks_of size (length tile) width height column row) ≡ Ok tt
    → InTile size tile width column row
view_room {size} most tile width height column row passed =
    let both = both_passed (bytes_checks_of size (length tile) width height) (place_check width height column row ∷ []) passed in
    let bytes = bytes_passed size (length tile) width height both.0 in
    let there = block_there width height column row (first_clear (place_check width height column row ∷ []) both.1).0 in
    let within = block_within width height bytes.good size column row there.0 there.1 in
    let few = (row_room width height bytes.good size row there.1).blocks in
    let small = (bytes_small width height bytes.good most).1 in
    let long = bytes.count in
    let here = there.0 in
    (omega arith, omega arith, omega arith)
