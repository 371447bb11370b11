-- bc4.rs, `compress_bc4_block`: eight bytes, byte 0 lowest, of sixteen samples.
use Rattle.std.specs.Prelude.{List, Bool, cond, not, ◌&&◌, ◌||◌, ℕ, Float}
use Rattle.std.specs.Float.Ieee.{lt}
use Rattle.floats.specs.Arithmetic.{◌⊕◌, ◌⊖◌, ◌⊗◌, bits, f0, f1, half}
use Rattle.floats.specs.declared.Pair.{Pair}
use Rattle.block.specs.Block.{entered, min_max}
use Rattle.options.specs.declared.Options.{Options}
use Rattle.coding.specs.Coding.{smaller}
use Rattle.compress.specs.Inter6.{compress_inter6}
use Rattle.compress.specs.Inter4.{compress_inter4}
use Rattle.single.specs.Single.{bc4_epsilon, single_color}
use Rattle.search.specs.Search.{searched}

-- the exhaustive search applies
abbrev pub searches : Options → Bool
searches o = (o.brute_force && not o.dither) && not o.snorm

-- INTER6_THRESHOLD, 1 / 7
abbrev pub inter6_threshold : Float
inter6_threshold = bits 0x3e12_4925

-- both ends are so far from 0 and 1 that six values are always better
abbrev pub amid : Pair → Bool
amid p =
    let seventh = (p.1 ⊖ p.0) ⊗ inter6_threshold in
    lt f0 (p.0 ⊖ seventh) && lt (p.1 ⊕ seventh) f1

-- six values alone are tried
abbrev pub six_only : Options → Pair → Bool
six_only o p = not o.use_inter4 || (o.use_inter4_heuristic && amid p)

unfoldable pub compressed_of : List Float → Options → Pair → ℕ
compressed_of b o p =
    let six = compress_inter6 b p o in
    cond (six_only o p) six.bytes (smaller (compress_inter4 b o) six).bytes

abbrev pub middle : Pair → Float
middle p = half ⊗ (p.0 ⊕ p.1)

-- of a block as it has entered, with its smallest and largest
unfoldable pub encoded : List Float → Options → Pair → ℕ
encoded b o p =
    cond (searches o) (searched b p)
    (cond (lt (p.1 ⊖ p.0) bc4_epsilon) (single_color (middle p) o.snorm o.dither) (compressed_of b o p))

unfoldable pub compressed : List Float → Options → ℕ
compressed s o = let b = entered s in encoded b o (min_max b)
