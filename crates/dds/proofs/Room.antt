-- What a write knows once its checks passed.
use mathlib.Core.Path.{◌≡◌}
use mathlib.Core.Bool.{false}
use mathlib.Core.List.{[], ◌∷◌}
use Prim.Native.Nat.{ℕ, ◌+◌, ◌≤◌}
use borrow.Author.Tests.{ltb-false}
use Rattle.place.specs.Place.{bad_size, bc4_size, encoded_length}
use Rattle.std.specs.declared.result.Result.TheVariants.{Ok}
use Rattle.refusal.specs.Refusals.{first_of, room_check, bytes_checks}
use Rattle.refusal.proofs.Firsts.{first_clear, both_passed}
use Rattle.refusal.proofs.Tiles.{bytes_passed}
use Rattle.dds.specs.Layout.{header_length}
use Rattle.dds.specs.Checks.{write_checks}

pub record Room (long width height most : ℕ) : Type 0 where
  pub good : bad_size width height ≡ false
  pub tile : long ≡ encoded_length bc4_size width height
  pub out : header_length + encoded_length bc4_size width height ≤ most

pub room : (long width height most : ℕ) → first_of (write_checks long width height most) ≡ Ok tt → Room long width height most
room long width height most passed =
    let rest = room_check most (header_length + encoded_length bc4_size width height) ∷ [] in
    let both = both_passed (bytes_checks long width height) rest passed in
    let bytes = bytes_passed bc4_size long width height both.0 in
    record { good = bytes.good; tile = bytes.count; out = ltb-false _ _ (first_clear rest both.1).0 }
