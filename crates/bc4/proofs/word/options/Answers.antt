-- `word::options` meets its contract: bit 0 is the only one that is not shifted.
use native.Mathlib.Nat.{div-one}
use Rattle.bc4.specs.Word.{options_of}
use Rattle.bc4.proofs.word.options.Goals as goal

pub returns : goal.returns
unfolding options_of
returns c = rw div-one
