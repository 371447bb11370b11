use mathlib.Core.Path.{sym}
use native.Mathlib.Omega.{arith}
use Rattle.refine.specs.Refining.{high_to}
use Rattle.refine.proofs.Rounding.{high_more}
use Rattle.std.proofs.Common.{rules}
use Rattle.refine.proofs.high.Goals as goal

pub loop-next-init : goal.loop-next-init
unfolding high_to
loop-next-init g c = (search rules, rw (c.hold-h.ensures, c.quantize-base.ensures))

pub loop-next-preserved : goal.loop-next-preserved
loop-next-preserved g c = (
  search rules,
  rw (c.better-h.ensures, c.quantize-q.ensures, c.loop-next.invariant.1)
      (sym (high_more g.P.Palette.kind c.args.b.now c.args.snorm c.args.p c.loop-next.next-index (omega arith))),
)
