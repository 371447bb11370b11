use mathlib.Core.Path.{◌≡◌, sym, ◌∙◌}
use Prim.Native.Nat.{◌-◌}
use native.Mathlib.Omega.{arith}
use borrow.Author.Tests.{eq-eqb, ne_eqb}
use Rattle.compress.specs.Network.{smaller_first, run, steps_from}
use Rattle.compress.proofs.Steps.{pass_more}
use Rattle.compress.proofs.network.pass.Goals as goal
use Rattle.compress.proofs.network.pass.Goals.{then-i-p, else-i-p}

pub loop-i-preserved : goal.loop-i-preserved
loop-i-preserved c =
    let a = c.args in
    let more = pass_more smaller_first a.p a.r a.d c.loop-i.i (16 - a.d) c.loop-i.s c.loop-i-test.true in
    elim c.if-i-p.branch [
      | then-i-p w ↦ (omega arith, rw (w.s-is, w.exchange.ensures) (sym (rw (eq-eqb _ _ w.if-i-p.true) at more) ∙ c.loop-i.invariant.1))
      | else-i-p w ↦ (omega arith, rw w.s-is (sym (rw (ne_eqb _ _ w.if-i-p.false) at more) ∙ c.loop-i.invariant.1))
    ]

pub returns : goal.returns
unfolding run steps_from
returns c =
    let none : 16 - c.args.d - c.loop-i.i ≡ 0 = omega arith in
    rw none at c.loop-i.invariant.1
