use mathlib.Core.Path.{sym}
use Rattle.refusal.specs.Refusals.{resend_checks}
use Rattle.refusal.proofs.Firsts.{passes, first_clear, same_of}
use Rattle.bc4.proofs.resend.Goals as goal

pub sixteen-b-requires : goal.sixteen-b-requires
sixteen-b-requires c = same_of _ _ (first_clear (resend_checks c.args.samples.now c.args.held.now c.args.o) (sym (passes _ c.in_ok-resend.ensures))).0

pub from_bytes-requires : goal.from_bytes-requires
from_bytes-requires c = same_of _ _ (first_clear (resend_checks c.args.samples.now c.args.held.now c.args.o) (sym (passes _ c.in_ok-resend.ensures))).1.0
