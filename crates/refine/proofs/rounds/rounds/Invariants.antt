use mathlib.Core.Path.{◌≡◌}
use Prim.Native.Nat.{◌-◌}
use Rattle.refine.specs.Rounds.{rounds}
use Rattle.refine.proofs.rounds.rounds.Given as goal

abbrev pub invariant-loop : goal.invariant-loop
invariant-loop g l =
    rounds g.P.Palette.kind l.b l.least (l.limit - l.counter) l.step l.h ≡ rounds g.P.Palette.kind l.b l.least l.limit l.initial.step l.initial.h
