use mathlib.Core.Path.{◌≡◌}
use Prim.Native.Nat.{◌≤◌}
use Rattle.compress.specs.Sorted.{count_to}
use Rattle.compress.proofs.sorted.not_above.Given as goal

abbrev pub invariant-loop-sample : goal.invariant-loop-sample
invariant-loop-sample l = (l.n ≤ l.sample-index) × (l.n ≡ count_to l.b l.x l.sample-index)
