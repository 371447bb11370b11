use mathlib.Core.Path.{ap, ◌∙◌}
use lib.Ieee.{nan}
use Rattle.std.proofs.Common.{rules}
use Rattle.floats.specs.Arithmetic.{◌⊗◌}
use Rattle.block.specs.Samples.{pixel_at}
use Rattle.block.proofs.Made.{made}
use Rattle.block.specs.Orders.{sum_in_pairs}
use Rattle.bcn_util.specs.LeastSquares.{dot_in_pairs}
use Rattle.bcn_util.proofs.least_squares.dot_in_pairs.Goals as goal

pub returns : goal.returns
unfolding dot_in_pairs
returns c = c.sum_in_pairs.ensures ∙ ap sum_in_pairs (made _ _ (λ i. pixel_at c.args.u.now i ⊗ pixel_at c.args.v.now i) 16 (λ i y q l k. search rules) nan _ c.from_fn.ensures.items)
