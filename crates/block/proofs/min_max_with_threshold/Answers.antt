use Rattle.block.specs.Orders.{element}
use Rattle.block.specs.Block.{min_max_with_threshold}
use Rattle.block.proofs.min_max_with_threshold.Goals as goal

pub returns : goal.returns
unfolding min_max_with_threshold element
returns c = rw (c.across.ensures, c.lane_within-4.ensures, c.lane_within-3.ensures, c.lane_within-2.ensures, c.lane_within.ensures)
