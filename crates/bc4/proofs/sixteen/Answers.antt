-- `sixteen` meets its contract: the one block of a tile of width 4.
use mathlib.Core.Path.{◌∙◌}
use Rattle.place.proofs.Samples.{block_of_whole}
use Rattle.bc4.proofs.sixteen.Goals as goal

pub returns : goal.returns
returns c = c.gather.ensures ∙ block_of_whole _ c.requires
