use Rattle.floats.specs.Helpers.{max_of}
use Rattle.end_points.specs.Levels.{levels_of}
use Rattle.end_points.proofs.Rounded.{fitting}
use Rattle.end_points.proofs.levels.of_ends.Goals as goal

pub between-requires : goal.between-requires
between-requires c =
    let a = c.args in
    rw (c.in_format-max.ensures, c.max.ensures) (fitting a.snorm (max_of a.e0 a.e1)).top

pub returns : goal.returns
unfolding levels_of
returns c = rw (c.between.ensures, c.in_format-max.ensures, c.max.ensures, c.in_format-min.ensures, c.min.ensures)
