use Rattle.palette.specs.PaletteError.{palette_error}
use Rattle.palette.proofs.palette_error.Goals as goal

pub returns : goal.returns
unfolding palette_error
returns g c = rw (c.sum.ensures, c.values.ensures)
