use mathlib.Core.Path.{◌≡◌, refl}
use Prim.Native.Nat.{◌+◌, ◌-◌}
use native.Mathlib.Omega.{arith}
use Rattle.search.proofs.FirstRow.{part_start, part_raised}
use Rattle.search.proofs.floor.MaxFloors.raised.Goals as goal

pub loop-i-init : goal.loop-i-init
loop-i-init c =
    let a = c.args in
    let count : a.at + a.n - a.at ≡ a.n = omega arith in
    rw (c.copy_from_slice.ensures.after, count, a.self.now.of_block) (part_start a.self.now.block.now a.min a.at a.n _ c.requires.0 c.requires.1 refl)

pub loop-i-preserved : goal.loop-i-preserved
loop-i-preserved c =
    let a = c.args in
    part_raised a.self.now.block.now a.min a.at a.n c.loop-i.raised c.loop-i.i c.lane_max.result c.loop-i.invariant c.loop-i-test.true (omega arith)
    (rw (c.lane_max.ensures, c.row_floor.ensures, c.f32-high.ensures, c.f32-low.ensures))
