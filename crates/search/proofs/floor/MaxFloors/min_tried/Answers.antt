use mathlib.Core.Path.{◌≡◌, refl, sym}
use Prim.Native.Nat.{◌-◌}
use native.Mathlib.Omega.{arith}
use lib.ListN.{length, take}
use Rattle.std.proofs.lemmas.List.{length-take-le}
use Rattle.search.specs.Search.{maxes_tried}
use Rattle.search.proofs.PassedOver.{maxes_passed}
use Rattle.search.proofs.Steps.{maxes_further}
use Rattle.search.proofs.floor.MaxFloors.min_tried.Goals as goal

pub returns-then-min_floor-best : goal.returns-then-min_floor-best
returns-then-min_floor-best c =
    let a = c.args in
    sym (maxes_passed a.self.now.block.now a.best a.min a.first (256 - a.first) c.requires.0 (omega arith) (rw (← c.min_floor.ensures) c.if-min_floor-best.true))

pub loop-at-init : goal.loop-at-init
unfolding maxes_tried
loop-at-init c =
    let none : c.args.first - c.args.first ≡ 0 = omega arith in
    (omega arith, omega arith, rw none refl)

pub loop-at-preserved : goal.loop-at-preserved
loop-at-preserved c =
    let a = c.args in
    let l = c.loop-at in
    let count : length (take c.min-n.result c.raised-raised.result) ≡ c.min-n.result = length-take-le c.min-n.result c.raised-raised.result (omega arith) in (
      omega arith,
      omega arith,
      rw (c.maxes_tried-held.ensures, count, l.invariant.2) (maxes_further a.self.now.block.now a.best a.min a.first l.at c.min-n.result l.invariant.0),
    )
