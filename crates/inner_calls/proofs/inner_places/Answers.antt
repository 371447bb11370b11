use lib.Ieee.{nan}
use Rattle.std.proofs.Common.{rules}
use Rattle.block.proofs.Made.{made}
use Rattle.compress.specs.Sorted.{placed}
use Rattle.inner_calls.proofs.inner_places.Goals as goal

pub returns : goal.returns
returns c = made _ _ (placed c.args.b.now) 16 (λ i y q l k. search rules) nan _ c.from_fn.ensures.items
