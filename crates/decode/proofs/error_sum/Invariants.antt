use mathlib.Core.Path.{◌≡◌}
use Prim.Native.Nat.{ℕ, ◌≤◌}
use lib.ListN.{drop}
use Rattle.decode.specs.BlockError.{error_to}
use Rattle.decode.proofs.error_sum.Given as goal

abbrev pub invariant-loop-s : goal.invariant-loop-s
invariant-loop-s l = (k : ℕ) × (k ≤ 16) × (l.s-iterator.a.rest.now ≡ drop k l.samples) × (l.s-iterator.b.rest.now ≡ drop k l.values) × (l.sum ≡ error_to l.samples l.values k)
