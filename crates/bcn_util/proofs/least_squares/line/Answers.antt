use lib.Ieee.{nan}
use Rattle.std.proofs.Common.{rules}
use Rattle.floats.specs.Arithmetic.{◌⊕◌, ◌⊗◌}
use Rattle.block.specs.Samples.{pixel_at}
use Rattle.block.proofs.Made.{made}
use Rattle.bcn_util.specs.LeastSquares.{line}
use Rattle.bcn_util.proofs.least_squares.line.Goals as goal

pub returns : goal.returns
unfolding line
returns c = made _ _ (λ i. c.args.e ⊕ c.args.d ⊗ pixel_at c.args.w.now i) 16 (λ i y q l k. search rules) nan _ c.from_fn.ensures.items
