use mathlib.Core.Path.{refl}
use Rattle.block.specs.Samples.{tabulate}
use Rattle.palette.proofs.Rules.{closest_lt}
use Rattle.bcn_util.specs.Dither.{dither_to}
use Rattle.bcn_util.proofs.DitherLaws.{reached_unset, reached_step}
use Rattle.std.proofs.Common.{rules}
use Rattle.bcn_util.proofs.dither.dither.Goals as goal

pub loop-i-init : goal.loop-i-init
unfolding tabulate dither_to
loop-i-init g c = (search rules, record { map_is = refl; done_is = rw c.new_empty-indexes.ensures })

pub set-indexes-requires : goal.set-indexes-requires
set-indexes-requires g c = (search rules, rw (c.closest-c.ensures, c.from_ends-palette.ensures) (closest_lt _ _ _ _), reached_unset c.loop-i.invariant.1)

pub loop-i-preserved : goal.loop-i-preserved
loop-i-preserved g c = (
  search rules,
  rw (c.diffuse.ensures, c.set-indexes.ensures, c.closest-c.ensures, c.from_ends-palette.ensures, c.asked-pixel.ensures)
      (reached_step c.loop-i.invariant.1),
)
