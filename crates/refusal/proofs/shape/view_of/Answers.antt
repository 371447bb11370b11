use Rattle.refusal.specs.Refusals.{bytes_checks_of}
use Rattle.refusal.proofs.Firsts.{refused_there}
use Rattle.refusal.proofs.shape.view_of.Goals as goal

pub returns-in_err-size : goal.returns-in_err-size
returns-in_err-size c = refused_there (bytes_checks_of _ _ _ _) _ c.from_residual.result c.from_residual.ensures.1 c.in_err-size.ensures.refusal
