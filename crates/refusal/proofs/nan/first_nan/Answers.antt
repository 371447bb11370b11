use mathlib.Core.Path.{sym}
use native.Mathlib.Omega.{arith}
use borrow.Author.Tests.{ltb-true}
use Rattle.refusal.proofs.Nans.{nan_here, nan_later, nan_none}
use Rattle.refusal.proofs.nan.first_nan.Goals as goal

pub returns-then-x : goal.returns-then-x
returns-then-x c = rw (← c.if-any_nan.ensures, nan_here _ _ c.loop-index-test.true c.loop-index.invariant c.if-x.true)

pub loop-index-preserved : goal.loop-index-preserved
loop-index-preserved c = nan_later _ _ c.loop-index-test.true c.loop-index.invariant c.if-x.false

-- one was found before
pub returns-after-loop-index : goal.returns-after-loop-index
returns-after-loop-index c =
    let none = nan_none _ _ c.loop-index-test.false c.loop-index.invariant in
    let one = ltb-true _ _ (sym c.if-any_nan.ensures) in
    absurd (omega arith)
