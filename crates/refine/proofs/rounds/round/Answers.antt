use mathlib.Core.Path.{refl, sym}
use native.Mathlib.Omega.{arith}
use Rattle.refine.specs.Rounds.{tried_to}
use Rattle.refine.proofs.RoundLaws.{tried_more}
use Rattle.std.proofs.Common.{rules}
use Rattle.refine.proofs.rounds.round.Goals as goal

pub loop-d-init : goal.loop-d-init
unfolding tried_to
loop-d-init g c = (search rules, refl)

pub loop-d-preserved : goal.loop-d-preserved
loop-d-preserved g c = (
  search rules,
  rw (c.tried-h.ensures, c.clamp-max.ensures, c.clamp-min.ensures, c.loop-d.invariant.1)
      (sym (tried_more g.P.Palette.kind c.args.b.now c.args.start c.args.step c.loop-d.d-index (omega arith))),
)
