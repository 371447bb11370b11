use lib.Ieee.{nan}
use Rattle.block.proofs.Fill.{Filled}
use Rattle.search.specs.Floor.{max_floor}
use Rattle.search.proofs.floor.max_floors.Given as goal

abbrev pub invariant-loop-max : goal.invariant-loop-max
invariant-loop-max l = Filled nan (max_floor l.b) 256 l.floors l.max
