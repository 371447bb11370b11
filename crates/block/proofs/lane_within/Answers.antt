use Rattle.std.proofs.Common.{rules, refl, ◌∙◌}
use Rattle.block.specs.Block.{counted}
use Rattle.block.proofs.lane_within.Goals as goal

pub returns : goal.returns
returns c = c.down.ensures (counted c.args.threshold) (λ x r k. search rules) ∙ rw (c.spanned-first.ensures, c.counted.ensures) refl
