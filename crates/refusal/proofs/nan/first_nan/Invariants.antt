use Rattle.refusal.proofs.Nans.{Passed-to}
use Rattle.refusal.proofs.nan.first_nan.Given as goal

abbrev pub invariant-loop-index : goal.invariant-loop-index
invariant-loop-index l = Passed-to l.samples l.index
