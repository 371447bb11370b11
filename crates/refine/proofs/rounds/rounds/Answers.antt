use mathlib.Core.Path.{◌≡◌, sym, ◌∙◌}
use Prim.Native.Nat.{◌+◌, ◌-◌}
use native.Mathlib.Omega.{arith}
use Rattle.refine.proofs.RoundLaws.{rounds_step, rounds_end, rounds_none}
use Rattle.refine.proofs.rounds.rounds.Goals as goal

pub loop-preserved : goal.loop-preserved
loop-preserved g c =
    let one_less : c.args.limit - (c.loop.counter + 1) ≡ c.args.limit - c.loop.counter - 1 = omega arith in
    rw (c.round-h.ensures, one_less) (sym (rounds_step _ _ _ _ _ _ (omega arith) c.if-not-step-least.false) ∙ c.loop.invariant)

pub returns-after-loop : goal.returns-after-loop
returns-after-loop g c = sym (rounds_none _ _ _ _ _ _ (omega arith)) ∙ c.loop.invariant

pub returns-then-not-step-least : goal.returns-then-not-step-least
returns-then-not-step-least g c = sym (rounds_end _ _ _ _ _ _ c.if-not-step-least.true) ∙ c.loop.invariant
