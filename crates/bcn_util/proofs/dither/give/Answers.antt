use Rattle.bcn_util.specs.Diffusion.{given}
use Rattle.bcn_util.proofs.dither.give.Goals as goal

pub returns-then-there : goal.returns-then-there
unfolding given
returns-then-there c = rw c.if-there.true

pub returns-else-there : goal.returns-else-there
unfolding given
returns-else-there c = rw c.if-there.false
