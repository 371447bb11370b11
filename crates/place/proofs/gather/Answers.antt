use lib.Ieee.{nan}
use Rattle.std.proofs.Common.{rules}
use Rattle.block.specs.Samples.{pixel_at}
use Rattle.block.proofs.Made.{made}
use Rattle.place.specs.Place.{sample_index, block_of}
use Rattle.place.proofs.gather.Goals as goal

pub returns : goal.returns
unfolding block_of
returns c =
    let a = c.args in
    made _ _ (λ i. pixel_at a.samples.now (sample_index a.width a.column a.row i)) 16 (λ i y q l k. search rules) nan _ c.from_fn.ensures.items
