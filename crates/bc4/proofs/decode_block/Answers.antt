use mathlib.Core.Path.{sym}
use Rattle.refusal.specs.Refusals.{decode_checks}
use Rattle.refusal.proofs.Firsts.{passes, first_clear, same_of}
use Rattle.bc4.proofs.decode_block.Goals as goal

pub from_bytes-requires : goal.from_bytes-requires
from_bytes-requires c = same_of _ _ (first_clear (decode_checks _) (sym (passes _ c.in_ok-decode.ensures))).0
