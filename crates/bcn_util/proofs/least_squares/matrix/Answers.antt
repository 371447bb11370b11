use Rattle.bcn_util.specs.LeastSquares.{matrix_of}
use Rattle.bcn_util.proofs.least_squares.matrix.Goals as goal

pub returns : goal.returns
unfolding matrix_of
returns c = rw (c.or_mean.ensures, c.from_d.ensures, c.dot_in_pairs-3.ensures, c.dot_in_pairs-2.ensures, c.dot_in_pairs.ensures, c.complement-v.ensures)
