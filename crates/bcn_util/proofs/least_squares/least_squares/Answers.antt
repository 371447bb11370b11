use Rattle.bcn_util.specs.LeastSquares.{least_squares}
use Rattle.bcn_util.proofs.least_squares.least_squares.Goals as goal

pub returns : goal.returns
unfolding least_squares
returns c = rw (c.dot_in_pairs-2.ensures, c.dot_in_pairs.ensures, c.line-g1.ensures, c.line-g0.ensures, c.matrix-m.ensures)
