use mathlib.Core.Path.{◌≡◌, sym, ◌∙◌}
use Prim.Native.Nat.{◌+◌, ◌-◌}
use native.Mathlib.Omega.{arith}
use Rattle.compress.proofs.Places.{walked_step, walked_met, walked_failed, walked_none}
use Rattle.compress.proofs.sorted.Sorted.walked.Goals as goal

pub returns-then-high-low : goal.returns-then-high-low
returns-then-high-low c = sym (walked_met _ _ _ _ _ c.if-high-low.true) ∙ c.loop.invariant.1

pub returns-then-not-t-h : goal.returns-then-not-t-h
returns-then-not-t-h c =
    let l = c.loop in
    sym (walked_failed c.args.self.now.block.now (4 - l.counter) l.h l.low l.high (rw (← c.candidate-t.ensures) c.if-not-t-h.true)) ∙ l.invariant.1

pub loop-preserved : goal.loop-preserved
loop-preserved c =
    let l = c.loop in
    let left : 4 - (l.counter + 1) ≡ 4 - l.counter - 1 = omega arith in (
      omega arith,
      rw (left, c.one_if-up.ensures.0, c.upward.ensures, c.candidate-t.ensures)
          (sym (walked_step c.args.self.now.block.now (4 - l.counter) l.h l.low l.high (omega (arith, c.loop-test.true)) c.if-high-low.false (rw (← c.candidate-t.ensures) c.if-not-t-h.false)) ∙ l.invariant.1),
    )

pub returns : goal.returns
returns c = sym (walked_none _ _ _ _ _ (omega arith)) ∙ c.loop.invariant.1
