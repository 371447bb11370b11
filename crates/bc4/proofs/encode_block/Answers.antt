use mathlib.Core.Path.{sym}
use Rattle.refusal.specs.Refusals.{encode_checks}
use Rattle.refusal.proofs.Firsts.{passes, first_clear, same_of}
use Rattle.bc4.proofs.encode_block.Goals as goal

pub sixteen-b-requires : goal.sixteen-b-requires
sixteen-b-requires c = same_of _ _ (first_clear (encode_checks _) (sym (passes _ c.in_ok-encode.ensures))).0
