use lib.Ieee.{nan}
use Rattle.std.proofs.Common.{rules}
use Rattle.block.proofs.Made.{made}
use Rattle.decode.specs.Meaning.{picked}
use Rattle.decode.proofs.look_up.Goals as goal

pub returns : goal.returns
returns c = made _ _ (picked c.args.eight c.args.list.data) 16 (λ i y q l k. search rules) nan _ c.from_fn.ensures.items
