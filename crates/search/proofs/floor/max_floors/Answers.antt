use native.Mathlib.Omega.{arith}
use Rattle.block.proofs.Fill.{fill_end}
use Rattle.search.proofs.floor.max_floors.Goals as goal

pub returns : goal.returns
returns c = fill_end c.loop-max.invariant (omega arith)
