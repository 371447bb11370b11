use mathlib.Core.Path.{refl}
use mathlib.Core.Logic.{inl}
use Rattle.search.proofs.start_error.Goals as goal

pub returns : goal.returns
unfolding lib.Ieee.of_bits
returns c = inl refl
