use lib.Ieee.{nan}
use Rattle.std.proofs.Common.{rules}
use Rattle.block.specs.Samples.{pixel_at}
use Rattle.block.proofs.Made.{made}
use Rattle.palette.specs.PaletteError.{miss}
use Rattle.palette.proofs.error.sum.Goals as goal

pub returns : goal.returns
returns c =
    let a = c.args in
    rw (c.sum_in_order.ensures, made _ _ (λ i. miss a.eight (pixel_at a.b.now i)) 16 (λ i y q l k. search rules) nan _ c.from_fn.ensures.items)
