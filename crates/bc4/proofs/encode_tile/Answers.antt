use mathlib.Core.Path.{sym}
use lib.ListN.{length}
use Rattle.refusal.proofs.Tiles.{tile_passed}
use Rattle.bc4.proofs.encode_tile.Goals as goal

pub encode_rows-requires : goal.encode_rows-requires
encode_rows-requires c =
    let a = c.args in
    let passed = tile_passed a.samples.now a.width a.height (length a.out.now) (sym c.in_ok-size.ensures.refusal) in
    rw (c.in_ok-size.ensures.size.0, c.in_ok-size.ensures.size.1) (passed.count, passed.room)
