use mathlib.Core.Path.{◌≡◌}
use Rattle.search.specs.Search.{mins_tried}
use Rattle.search.proofs.floor.MaxFloors.mins_tried.Given as goal

abbrev pub invariant-loop-min : goal.invariant-loop-min
invariant-loop-min l = l.best ≡ mins_tried l.self.block.now l.least l.initial.best l.min
