use Rattle.refusal.specs.Refusals.{bytes_checks}
use Rattle.refusal.proofs.Firsts.{refused_there}
use Rattle.station.proofs.shape.message.Goals as goal

pub returns-in_err-size : goal.returns-in_err-size
returns-in_err-size c = refused_there (bytes_checks _ _ _) _ c.from_residual.result c.from_residual.ensures.1 c.in_err-size.ensures.refusal
