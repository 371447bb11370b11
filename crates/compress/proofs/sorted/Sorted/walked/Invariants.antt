use mathlib.Core.Path.{◌≡◌}
use Prim.Native.Nat.{◌-◌, ◌≤◌}
use Rattle.compress.specs.Inter4.{walked}
use Rattle.compress.proofs.sorted.Sorted.walked.Given as goal

abbrev pub invariant-loop : goal.invariant-loop
invariant-loop l = (l.high ≤ l.initial.high) × (walked l.self.block.now (4 - l.counter) l.h l.low l.high ≡ walked l.self.block.now 4 l.initial.h l.initial.low l.initial.high)
