use Prim.Native.Nat.{ℕ, ◌%◌}
use native.Mathlib.Numerals.{add-one}
use native.Mathlib.Omega.{arith}
use lib.ListN.{get_or}
use Rattle.index_list.specs.Indexes.{filled_to}
use Rattle.index_list.proofs.Laws.{filled_unset}
use Rattle.std.proofs.Common.{rules}
use Rattle.inner_calls.proofs.inner_set.Goals as goal

pub loop-i-init : goal.loop-i-init
unfolding filled_to
loop-i-init c = (search rules, c.new_empty-list.ensures)

pub set-list-requires : goal.set-list-requires
set-list-requires c =
    let f : ℕ → ℕ = λ (k : ℕ). get_or c.args.indexes.now k 0 % 8 in (
      search rules,
      omega arith,
      rw c.loop-i.invariant.1 (filled_unset f c.loop-i.i (λ k lt. omega arith) c.loop-i.i (omega arith)),
    )

pub loop-i-preserved : goal.loop-i-preserved
unfolding filled_to
loop-i-preserved c = (search rules, simp (add-one, c.set-list.ensures, c.loop-i.invariant.1))
