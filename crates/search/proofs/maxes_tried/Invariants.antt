use Rattle.std.proofs.Common.{◌≡◌}
use Rattle.search.specs.Search.{maxes_tried}
use Rattle.search.proofs.maxes_tried.Given as goal

abbrev pub invariant-loop-i : goal.invariant-loop-i
invariant-loop-i l = l.best ≡ maxes_tried l.b l.initial.best l.min l.at l.i
