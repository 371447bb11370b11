use Rattle.bcn_util.specs.LeastSquares.{from_d}
use Rattle.bcn_util.proofs.least_squares.from_d.Goals as goal

pub returns-then-abs : goal.returns-then-abs
unfolding from_d
returns-then-abs c = rw (← c.abs.ensures, c.if-abs.true)

pub returns : goal.returns
unfolding from_d
returns c = rw (← c.abs.ensures, c.if-abs.false)
