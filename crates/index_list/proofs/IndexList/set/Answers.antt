-- `index_list::IndexList::set` meets its contract: nothing is shifted out, and the sum fits since the three bits were 0.
use Prim.Native.Nat.{◌*◌}
use native.Mathlib.Omega.{arith}
use lib.Pow.{shl_exact}
use Rattle.index_list.proofs.Laws.{set_lt}
use Rattle.index_list.proofs.IndexList.set.Goals as goal

pub overflow_add-result : goal.overflow_add-result
overflow_add-result c =
    let a = c.args in
    let p = c.requires in
    let fits = set_lt a.self.data a.index a.value 64 p.1 p.2 (omega arith) (omega arith) in
    omega (arith, fits, shl_exact 3 (3 * a.index) 64 p.1 (omega arith))

pub returns : goal.returns
returns c = omega (arith, shl_exact 3 (3 * c.args.index) 64 c.requires.1 (omega arith))
