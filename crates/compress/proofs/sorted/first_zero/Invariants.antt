use mathlib.Core.Path.{◌≡◌}
use Rattle.compress.specs.Network.{first_zero_to}
use Rattle.compress.proofs.sorted.first_zero.Given as goal

abbrev pub invariant-loop-sample : goal.invariant-loop-sample
invariant-loop-sample l = l.z ≡ first_zero_to l.b l.sample-index
