-- What a record of 68 bytes says. Document 01, "The program":
--   bytes 0..3   the options word
--   bytes 4..67  sixteen f32, little-endian
use Rattle.std.specs.Prelude.{List, ℕ, ◌+◌, ◌*◌, get_or, Float}
use Rattle.std.specs.Float.{binary32}
use Rattle.std.specs.Float.Ieee.{of_bits}
use Rattle.block.specs.Samples.{per_pixel}
use Rattle.fields.specs.Fields.{field_at}
use Rattle.bc4.specs.declared.word.Word.{Word}
use Rattle.bc4.specs.Word.{word_of}

-- byte k of a record
abbrev pub record_byte : List ℕ → ℕ → ℕ
record_byte bytes k = get_or bytes k 0

abbrev pub record_word : List ℕ → Word
record_word bytes = word_of (record_byte bytes 0) (record_byte bytes 1) (record_byte bytes 2) (record_byte bytes 3)

-- ---- the samples: the bits of sample i
abbrev pub pattern_at : List ℕ → ℕ → ℕ
pattern_at bytes i = field_at 4 bytes (4 + 4 * i)

unfoldable pub samples_of : List ℕ → List Float
samples_of bytes = per_pixel (λ i. of_bits binary32 (pattern_at bytes i))
