use Rattle.block.specs.Block.{min_max}
use Rattle.encode.specs.Encoder.{compressed}
use Rattle.block.proofs.Laws.{entered_unit}
use Rattle.block.proofs.Extremes.{extremes_unit}
use Rattle.encode.proofs.compress_bc4_block.Goals as goal

pub encoded-requires : goal.encoded-requires
unfolding min_max
encoded-requires c =
    let r = c.from_raw-b in
    rw (c.min_max.ensures, r.ensures) (extremes_unit _ (entered_unit c.args.samples.now))

pub returns : goal.returns
unfolding compressed
returns c = rw (c.encoded.ensures, c.min_max.ensures, c.from_raw-b.ensures)
