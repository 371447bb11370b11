use mathlib.Core.Path.{sym}
use native.Mathlib.Omega.{arith}
use Rattle.refusal.proofs.Firsts.{passes}
use Rattle.refusal.proofs.Views.{view_room}
use Rattle.std.proofs.Common.{rules}
use Rattle.exports.proofs.bc4_block_view.Goals as goal

pub block_at-requires : goal.block_at-requires
block_at-requires c =
    let a = c.args in
    let room = view_room (omega arith) a.tile.now a.width a.height a.column a.row (sym (passes _ c.in-Ok.ensures)) in
    search rules
