use Rattle.std.proofs.Common.{rules, refl, ◌∙◌}
use Rattle.block.specs.Block.{alone}
use Rattle.block.proofs.lane.Goals as goal

pub returns : goal.returns
returns c = c.down.ensures alone (λ x r k. search rules) ∙ rw c.alone.ensures refl
