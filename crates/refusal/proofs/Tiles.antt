-- What a call on a tile knows once its checks passed: a good size, and lengths that go with it.
use mathlib.Core.Path.{◌≡◌}
use mathlib.Core.Bool.{false}
use mathlib.Core.List.{List, [], ◌∷◌}
use Prim.Native.Nat.{ℕ, ◌*◌, ◌≤◌}
use lib.ListN.{length}
use lib.Ieee.{Float}
use borrow.Author.Tests.{ltb-false}
use Rattle.place.specs.Place.{bad_size, bc4_size, encoded_length}
use Rattle.std.specs.declared.result.Result.TheVariants.{Ok}
use Rattle.refusal.specs.Refusals.{first_of, first_nan, count_check, length_check, room_check, tile_nan_check, size_checks, bytes_checks_of, tile_checks}
use Rattle.refusal.proofs.Firsts.{first_clear, both_passed, same_of}
use Rattle.refusal.proofs.Sizes.{size_passed}

pub record Bytes (size long width height : ℕ) : Type 0 where
  pub good : bad_size width height ≡ false
  pub count : long ≡ encoded_length size width height

pub bytes_passed : (size long width height : ℕ) → first_of (bytes_checks_of size long width height) ≡ Ok tt → Bytes size long width height
bytes_passed size long width height passed =
    let rest = length_check long (encoded_length size width height) ∷ [] in
    let both = both_passed (size_checks width height) rest passed in
    record { good = size_passed width height both.0; count = same_of _ _ (first_clear rest both.1).0 }

pub record Samples (samples : List Float) (width height most : ℕ) : Type 0 where
  pub good : bad_size width height ≡ false
  pub count : length samples ≡ width * height
  pub room : encoded_length bc4_size width height ≤ most
  pub real : length samples ≤ first_nan samples

pub tile_passed : (samples : List Float) (width height most : ℕ) → first_of (tile_checks samples width height most) ≡ Ok tt → Samples samples width height most
tile_passed samples width height most passed =
    let rest = count_check samples (width * height) ∷ room_check most (encoded_length bc4_size width height) ∷ tile_nan_check samples width ∷ [] in
    let both = both_passed (size_checks width height) rest passed in
    let clear = first_clear rest both.1 in
    record { good = size_passed width height both.0; count = same_of _ _ clear.0; room = ltb-false _ _ clear.1.0; real = ltb-false _ _ clear.1.1.0 }
