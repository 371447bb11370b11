use mathlib.Core.Path.{◌∙◌}
use Rattle.compress.proofs.SortedPlaces.{sorted_place}
use Rattle.compress.proofs.sorted.Sorted.placed.Goals as goal

pub returns-then-x : goal.returns-then-x
returns-then-x c =
    let s = c.args.self.now in
    let zero = rw c.lane_min-x.ensures at c.if-x.true in
    c.first_zero.ensures ∙ (rw zero at (sorted_place s.block.now c.args.k c.requires s.in_order))

pub returns : goal.returns
returns c =
    let s = c.args.self.now in
    let other = rw c.lane_min-x.ensures at c.if-x.false in
    c.lane_min-x.ensures ∙ (rw other at (sorted_place s.block.now c.args.k c.requires s.in_order))
