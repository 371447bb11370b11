-- What a message knows once it, the tile and the record go together: where its place is in both, and that it is there.
use mathlib.Core.Path.{◌≡◌}
use mathlib.Core.Bool.{false}
use mathlib.Core.List.{[], ◌∷◌}
use Prim.Native.Nat.{ℕ, ◌+◌, ◌*◌, ◌<◌, ◌≤◌}
use native.Mathlib.Omega.{arith}
use Rattle.place.specs.Place.{longest_side, bad_size, along, bc4_size, encoded_length, block_at}
use Rattle.place.proofs.Places.{bytes_small, row_room, block_there, block_within}
use Rattle.std.specs.declared.result.Result.TheVariants.{Ok}
use Rattle.refusal.specs.Refusals.{first_of, length_check, place_check, bytes_checks}
use Rattle.refusal.proofs.Firsts.{first_clear, both_passed, same_of}
use Rattle.refusal.proofs.Tiles.{bytes_passed}
use Rattle.station.specs.Editions.{entry_size}
use Rattle.station.specs.Receiving.{shape_checks}

pub record Room (long entries count width height column row : ℕ) : Type 0 where
  pub good : bad_size width height ≡ false
  pub tile : long ≡ encoded_length bc4_size width height
  pub record_length : entries ≡ encoded_length entry_size width height
  pub eight : count ≡ bc4_size
  pub across : column < along width
  pub down : row < along height
  pub few : row * along width + column ≤ longest_side * longest_side
  pub bytes : block_at bc4_size width column row + bc4_size ≤ long
  pub entry : block_at entry_size width column row < entries
  pub small : long ≤ longest_side * longest_side

pub room : (long entries count width height column row : ℕ) → first_of (shape_checks long entries count width height column row) ≡ Ok tt → Room long entries count width height column row
room long entries count width height column row passed =
    let rest = length_check entries (encoded_length entry_size width height) ∷ length_check count bc4_size ∷ place_check width height column row ∷ [] in
    let both = both_passed (bytes_checks long width height) rest passed in
    let clear = first_clear rest both.1 in
    let sized = bytes_passed bc4_size long width height both.0 in
    let there = block_there width height column row clear.1.1.0 in
    let entries_are = same_of _ _ clear.0 in
    let across = there.0 in
    let few = (row_room width height sized.good bc4_size row there.1).blocks in
    let bytes = block_within width height sized.good bc4_size column row there.0 there.1 in
    let entry = block_within width height sized.good entry_size column row there.0 there.1 in
    let most = (bytes_small width height sized.good {size = bc4_size} (omega arith)).1 in
    let long_is = sized.count in
    record {
      good = sized.good;
      tile = sized.count;
      record_length = entries_are;
      eight = same_of _ _ clear.1.0;
      across = there.0;
      down = there.1;
      few = omega arith;
      bytes = omega arith;
      entry = omega arith;
      small = omega arith;
    }
