use Rattle.refusal.proofs.Nans.{Looked}
use Rattle.refusal.proofs.nan.any_nan.Given as goal

abbrev pub invariant-loop-x : goal.invariant-loop-x
invariant-loop-x l = Looked l.samples l.found l.x-index
