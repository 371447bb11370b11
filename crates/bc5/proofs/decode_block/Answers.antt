use mathlib.Core.Path.{◌≡◌, sym}
use lib.ListN.{length}
use Rattle.place.specs.Place.{bc5_size}
use Rattle.refusal.proofs.Firsts.{passes, first_clear, same_of}
use Rattle.std.proofs.Common.{rules}
use Rattle.bc5.specs.Checks.{decode_checks}
use Rattle.bc5.proofs.decode_block.Goals as goal

pub slice_bounds-from_bytes-end : goal.slice_bounds-from_bytes-end
slice_bounds-from_bytes-end c = let l : length c.args.encoded.now ≡ bc5_size = same_of _ _ (first_clear (decode_checks _) (sym (passes _ c.in_ok-decode.ensures))).0 in search rules

pub slice_bounds-from_bytes-end-2 : goal.slice_bounds-from_bytes-end-2
slice_bounds-from_bytes-end-2 c = let l : length c.args.encoded.now ≡ bc5_size = same_of _ _ (first_clear (decode_checks _) (sym (passes _ c.in_ok-decode.ensures))).0 in search rules
