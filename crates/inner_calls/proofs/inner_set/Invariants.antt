use mathlib.Core.Path.{◌≡◌}
use Prim.Native.Nat.{ℕ, ◌%◌, ◌≤◌}
use lib.ListN.{get_or}
use Rattle.index_list.specs.Indexes.{filled_to}
use Rattle.inner_calls.proofs.inner_set.Given as goal

abbrev pub invariant-loop-i : goal.invariant-loop-i
invariant-loop-i l = (l.i ≤ 16) × (l.list.data ≡ filled_to (λ (k : ℕ). get_or l.indexes k 0 % 8) l.i)
