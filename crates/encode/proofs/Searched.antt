-- Where the search applies, its bytes are the block's.
use mathlib.Core.Path.{◌≡◌}
use mathlib.Core.Bool.{true}
use mathlib.Core.List.{List}
use lib.Ieee.{Float}
use Rattle.block.specs.Block.{min_max, entered}
use Rattle.options.specs.declared.Options.{Options}
use Rattle.search.specs.Search.{searched}
use Rattle.encode.specs.Encoder.{searches, encoded, compressed}

pub compressed_searched : (s : List Float) (o : Options) → searches o ≡ true → compressed s o ≡ searched (entered s) (min_max (entered s))
unfolding compressed encoded
compressed_searched s o h = rw h
