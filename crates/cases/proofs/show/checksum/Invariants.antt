-- The sum is a remainder: `sum * 257` fits.
use Rattle.std.proofs.Common.{◌<◌}
use Rattle.cases.proofs.show.checksum.Given as goal

abbrev pub invariant-loop-item : goal.invariant-loop-item
invariant-loop-item g l = l.sum < 4294967291
