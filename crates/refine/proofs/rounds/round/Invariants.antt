use mathlib.Core.Path.{◌≡◌}
use Prim.Native.Nat.{◌≤◌}
use Rattle.refine.specs.Rounds.{tried_to}
use Rattle.refine.proofs.rounds.round.Given as goal

abbrev pub invariant-loop-d : goal.invariant-loop-d
invariant-loop-d g l = (l.d-index ≤ 4) × (l.h ≡ tried_to g.P.Palette.kind l.b l.start l.step l.d-index)
