use Rattle.std.proofs.Common.{◌≡◌, ◌-◌, ◌≤◌}
use Rattle.search.specs.Search.{maxes_tried}
use Rattle.search.proofs.floor.MaxFloors.min_tried.Given as goal

abbrev pub invariant-loop-at : goal.invariant-loop-at
invariant-loop-at l = (l.first ≤ l.at) × (l.at ≤ 256) × (l.held ≡ maxes_tried l.self.block.now l.initial.held l.min l.first (l.at - l.first))

abbrev pub decreases-loop-at : goal.decreases-loop-at
decreases-loop-at l = 256 - l.at
