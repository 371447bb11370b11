use Rattle.search.specs.Floor.{PartFloors}
use Rattle.search.proofs.floor.MaxFloors.raised.Given as goal

abbrev pub invariant-loop-i : goal.invariant-loop-i
invariant-loop-i l = PartFloors l.self.block.now l.min l.at l.n l.raised
