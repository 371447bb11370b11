-- `dds::write` meets its contract: the header, and then the tile after it.
use mathlib.Core.Path.{sym}
use Prim.Native.Nat.{◌+◌, ◌≤◌}
use native.Mathlib.Omega.{arith}
use lib.ListN.{length}
use Rattle.dds.specs.Layout.{header_length, header_of}
use Rattle.dds.proofs.Files.{header_length_lem, tile_put}
use Rattle.dds.proofs.Room.{room as write_room}
use Rattle.std.proofs.Common.{rules}
use Rattle.dds.proofs.write.Goals as goal

pub put-requires : goal.put-requires
put-requires c = let r = (write_room _ _ _ _ (sym c.in_ok-size.ensures.refusal)) in search rules

pub slice_bounds-copy_from_slice-end : goal.slice_bounds-copy_from_slice-end
slice_bounds-copy_from_slice-end c =
    let r = write_room _ _ _ _ (sym c.in_ok-size.ensures.refusal) in
    let room : header_length + length c.args.tile.now ≤ length c.put.new.out = omega (arith, r.tile, r.out) in
    search rules

pub returns-clause-answer : goal.returns-clause-answer
returns-clause-answer c =
    let r = write_room _ _ _ _ (sym c.in_ok-size.ensures.refusal) in
    rw (← c.in_ok-size.ensures.refusal, r.tile)

pub returns-clause-bytes : goal.returns-clause-bytes
returns-clause-bytes c =
    let a = c.args in
    let s = c.in_ok-size.size in
    let r = write_room _ _ _ _ (sym c.in_ok-size.ensures.refusal) in
    let header = header_of s.width s.height a.snorm in
    rw (← c.in_ok-size.ensures.size.0, ← c.in_ok-size.ensures.size.1, c.put.ensures, c.copy_from_slice.ensures.after)
    (tile_put header a.tile.now a.out.now header_length (header_length_lem s.width s.height a.snorm))
