use mathlib.Core.Path.{ap, ◌∙◌}
use native.Mathlib.Omega.{arith}
use Rattle.index_list.proofs.Laws.{filled_same}
use Rattle.block.specs.Samples.{pixel_at}
use Rattle.block.specs.Orders.{sum_of_squares}
use Rattle.block.proofs.Fill.{fill_end}
use Rattle.palette.specs.Closest.{closest4}
use Rattle.palette.proofs.ClosestLaws.{nearest6_lt, indexed_is}
use Rattle.palette.proofs.inter4.Inter4PalettePalette.block_closest.Goals as goal

pub indexes-requires : goal.indexes-requires
indexes-requires c = λ i l. rw (c.loop-i.invariant.0.done i (omega arith)) (nearest6_lt c.args.self.colors (pixel_at c.args.b.now i))

pub returns : goal.returns
unfolding closest4
returns c =
    let v = c.loop-i.invariant in
    indexed_is _ _ _ _ (c.indexes.ensures ∙ filled_same _ _ 16 (λ i l. v.0.done i (omega arith))) (c.sum_of_squares.ensures ∙ ap sum_of_squares (fill_end v.1 (omega arith)))
