use mathlib.Core.Path.{sym}
use Rattle.refusal.specs.Refusals.{error_checks}
use Rattle.refusal.proofs.Firsts.{passes, first_clear, same_of}
use Rattle.bc4.proofs.block_error.Goals as goal

pub sixteen-b-requires : goal.sixteen-b-requires
sixteen-b-requires c = same_of _ _ (first_clear (error_checks _ _) (sym (passes _ c.in_ok-error.ensures))).0

pub from_bytes-requires : goal.from_bytes-requires
from_bytes-requires c = same_of _ _ (first_clear (error_checks _ _) (sym (passes _ c.in_ok-error.ensures))).1.0
