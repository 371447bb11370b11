use Rattle.block.specs.Orders.{element}
use Rattle.block.specs.Block.{min_max, smallest, largest}
use Rattle.block.proofs.min_max.Goals as goal

pub returns : goal.returns
unfolding min_max smallest largest element
returns c = rw (c.across.ensures, c.lane-4.ensures, c.lane-3.ensures, c.lane-2.ensures, c.lane.ensures)
