use Rattle.refusal.proofs.Nans.{looked_later, looked_all}
use Rattle.refusal.proofs.nan.any_nan.Goals as goal

pub loop-x-preserved : goal.loop-x-preserved
loop-x-preserved c = looked_later c.args.samples.now c.loop-x.found c.loop-x.x-index c.loop-x-test.true c.loop-x.invariant

pub returns : goal.returns
returns c = looked_all _ _ _ c.loop-x-test.false c.loop-x.auto.x-index-end c.loop-x.invariant
