-- What a call on two channels knows once its checks passed: the counts, and of a tile the size and the room.
use mathlib.Core.Path.{◌≡◌}
use mathlib.Core.Bool.{false}
use mathlib.Core.List.{List, ◌∷◌}
use Prim.Native.Nat.{ℕ, ◌*◌, ◌≤◌}
use lib.ListN.{length}
use lib.Ieee.{Float}
use borrow.Author.Tests.{ltb-false}
use Rattle.place.specs.Place.{bad_size, bc5_size, encoded_length}
use Rattle.std.specs.declared.result.Result.TheVariants.{Ok}
use Rattle.refusal.specs.Refusals.{Check, first_of, first_nan, length_check, room_check, size_checks}
use Rattle.refusal.proofs.Firsts.{first_clear, both_passed, same_of}
use Rattle.refusal.proofs.Sizes.{size_passed}
use Rattle.bc5.specs.Checks.{tile_nan_checks, counted, tile_checks}

-- ---- a block; `rest` is what its call looks at after the counts
abbrev pub BothSixteen : List Float → List Float → Type 0
BothSixteen first second = (length first ≡ 16) × (length second ≡ 16)

pub both_sixteen : (first second : List Float) (rest : List Check) → first_of (counted first second 16 rest) ≡ Ok tt → BothSixteen first second
both_sixteen first second rest passed = let c = first_clear (counted first second 16 rest) passed in (same_of _ _ c.0, same_of _ _ c.1.0)

pub bytes_sixteen : (first second : List Float) (encoded : List ℕ) (rest : List Check) → first_of (counted first second 16 (length_check (length encoded) bc5_size ∷ rest)) ≡ Ok tt
    → length encoded ≡ bc5_size
bytes_sixteen first second encoded rest passed = same_of _ _ (first_clear (counted first second 16 (length_check (length encoded) bc5_size ∷ rest)) passed).1.1.0

-- ---- a tile
pub record Channels (first second : List Float) (width height most : ℕ) : Type 0 where
  pub good : bad_size width height ≡ false
  pub first_count : length first ≡ width * height
  pub second_count : length second ≡ width * height
  pub room : encoded_length bc5_size width height ≤ most
  pub first_real : length first ≤ first_nan first
  pub second_real : length second ≤ first_nan second

pub tile_passed : (first second : List Float) (width height most : ℕ) → first_of (tile_checks first second width height most) ≡ Ok tt → Channels first second width height most
tile_passed first second width height most passed =
    let rest = counted first second (width * height) (room_check most (encoded_length bc5_size width height) ∷ tile_nan_checks first second width) in
    let both = both_passed (size_checks width height) rest passed in
    let c = first_clear rest both.1 in
    record {
      good = size_passed width height both.0;
      first_count = same_of _ _ c.0;
      second_count = same_of _ _ c.1.0;
      room = ltb-false _ _ c.1.1.0;
      first_real = ltb-false _ _ c.1.1.1.0;
      second_real = ltb-false _ _ c.1.1.1.1.0;
    }
