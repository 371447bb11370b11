use Rattle.std.proofs.Common.{rules}
use Rattle.block.proofs.Made.{made}
use Rattle.fit.specs.Lanes.{lane_at, weighed}
use Rattle.fit.proofs.weigh.Goals as goal

pub returns : goal.returns
unfolding weighed
returns c =
    let a = c.args in
    made _ _ (lane_at a.p a.b.now) 4 (λ j l q h k. search rules) (lane_at a.p a.b.now 0) _ c.from_fn.ensures.items
