use Prim.Native.Nat.{◌≤◌}
use Rattle.bcn_util.proofs.DitherLaws.{Reached}
use Rattle.bcn_util.proofs.dither.dither.Given as goal

abbrev pub invariant-loop-i : goal.invariant-loop-i
invariant-loop-i g l = (l.i ≤ 16) × Reached g.P.Palette.kind l.c0 l.c1 l.b l.i l.map (record { indexes = l.indexes; error = l.error })
