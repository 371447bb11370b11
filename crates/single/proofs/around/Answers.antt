use Rattle.palette.proofs.Rules.{closest_lt}
use Rattle.single.proofs.around.Goals as goal

pub uniform-requires : goal.uniform-requires
uniform-requires g c = rw (c.closest-nearest.ensures, c.from_ends.ensures) (closest_lt _ _ _ _)

pub returns : goal.returns
returns g c = rw (c.uniform.ensures, c.closest-nearest.ensures, c.from_ends.ensures)
