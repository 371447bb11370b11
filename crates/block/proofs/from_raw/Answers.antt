use lib.Ieee.{nan}
use Rattle.std.proofs.Common.{rules}
use Rattle.floats.specs.Helpers.{entry_clamp}
use Rattle.block.specs.Samples.{pixel_at}
use Rattle.block.specs.Block.{entered}
use Rattle.block.proofs.Made.{made}
use Rattle.block.proofs.from_raw.Goals as goal

pub returns : goal.returns
unfolding entered
returns c = made _ _ (λ i. entry_clamp (pixel_at c.args.samples.now i)) 16 (λ i y q l k. search rules) nan _ c.from_fn.ensures.items
