use Rattle.refusal.specs.Refusals.{size_checks}
use Rattle.refusal.proofs.Firsts.{refused_first}
use Rattle.refusal.proofs.shape.bytes_of.Goals as goal

pub returns-in_err-size-clause-refusal : goal.returns-in_err-size-clause-refusal
returns-in_err-size-clause-refusal c = refused_first (size_checks _ _) _ c.from_residual.result c.from_residual.ensures.1 c.in_err-size.ensures.refusal
