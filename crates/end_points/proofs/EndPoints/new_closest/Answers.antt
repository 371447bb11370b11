use Rattle.end_points.specs.EndPoints.{closest}
use Rattle.end_points.proofs.Rounded.{nearest-le}
use Rattle.end_points.proofs.EndPoints.new_closest.Goals as goal

pub level_byte-requires : goal.level_byte-requires
level_byte-requires c = rw c.nearest_level-level.ensures (nearest-le c.args.snorm c.args.value c.requires.1)

pub returns : goal.returns
unfolding closest
returns c = rw (c.of_bytes.ensures, c.level_byte-2.ensures, c.level_byte.ensures, c.nearest_level-level.ensures)
