use lib.Ieee.{nan}
use Rattle.std.proofs.Common.{rules}
use Rattle.block.specs.Samples.{pixel_at}
use Rattle.block.proofs.Made.{made}
use Rattle.palette.specs.Closest.{weight, weights}
use Rattle.palette.proofs.inter6.Inter6Palette.block_closest_weights.Goals as goal

pub returns : goal.returns
unfolding weights
returns c = let a = c.args in made _ _ (λ i. weight a.self (pixel_at a.b.now i)) 16 (λ i y q l k. search rules) nan _ c.from_fn.ensures.items
