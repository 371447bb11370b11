use mathlib.Core.Path.{sym}
use Rattle.refusal.proofs.Sizes.{good_passes}
use Rattle.refusal.proofs.shape.size.Goals as goal

pub returns-in-Some-clause-refusal : goal.returns-in-Some-clause-refusal
returns-in-Some-clause-refusal c = rw (← c.in-Some.ensures.sides.0, ← c.in-Some.ensures.sides.1) (sym (good_passes _ _ c.in-Some.size.good))
