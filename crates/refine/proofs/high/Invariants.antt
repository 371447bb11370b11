use mathlib.Core.Path.{◌≡◌}
use Prim.Native.Nat.{◌≤◌}
use Rattle.refine.specs.Refining.{high_to}
use Rattle.refine.proofs.high.Given as goal

abbrev pub invariant-loop-next : goal.invariant-loop-next
invariant-loop-next g l = (l.next-index ≤ 3) × (l.h ≡ high_to g.P.Palette.kind l.b l.snorm l.fn.p l.next-index)
