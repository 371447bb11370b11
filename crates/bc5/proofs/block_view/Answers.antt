use mathlib.Core.Path.{sym}
use native.Mathlib.Omega.{arith}
use Rattle.refusal.proofs.Firsts.{passes}
use Rattle.refusal.proofs.Views.{view_room}
use Rattle.bc5.proofs.block_view.Goals as goal

pub block_part-requires : goal.block_part-requires
block_part-requires c = let a = c.args in view_room (omega arith) a.tile.now a.width a.height a.column a.row (sym (passes _ c.in-Ok.ensures))
