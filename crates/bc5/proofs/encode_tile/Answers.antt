use mathlib.Core.Path.{sym}
use lib.ListN.{length}
use Rattle.bc5.proofs.Counts.{tile_passed}
use Rattle.bc5.proofs.encode_tile.Goals as goal

pub encode_pairs-requires : goal.encode_pairs-requires
encode_pairs-requires c =
    let a = c.args in
    let passed = tile_passed a.first.now a.second.now a.width a.height (length a.out.now) (sym c.in_ok-size.ensures.refusal) in
    rw (c.in_ok-size.ensures.size.0, c.in_ok-size.ensures.size.1) (passed.first_count, passed.second_count, passed.room)
