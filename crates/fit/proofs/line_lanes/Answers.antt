use lib.Ieee.{nan}
use Rattle.std.proofs.Common.{rules}
use Rattle.block.proofs.Made.{made}
use Rattle.fit.specs.Lanes.{lane, line_lane}
use Rattle.fit.proofs.line_lanes.Goals as goal

pub returns : goal.returns
returns c =
    let a = c.args in
    made _ _ (λ j. line_lane a.b.now (lane a.g.now j) a.e a.d j) 4 (λ j x q h k. search rules) nan _ c.from_fn.ensures.items
