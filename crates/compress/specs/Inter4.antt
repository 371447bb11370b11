-- bc4.rs, `compress_inter4` and `inter4_reassign_defaults`.
use Rattle.std.specs.Prelude.{List, Bool, cond, ◌&&◌, ℕ, zero, suc, ◌+◌, ◌-◌, ltb, Float}
use Rattle.std.specs.Float.Ieee.{lt}
use Rattle.floats.specs.Arithmetic.{◌⊖◌, bits, f1}
use Rattle.floats.specs.declared.Pair.{Pair}
use Rattle.block.specs.Block.{bc4_min_value, min_max_with_threshold}
use Rattle.palette.specs.declared.Kind.TheVariants.{Four}
use Rattle.options.specs.declared.Options.{Options}
use Rattle.refine.specs.declared.rounds.Held.{Held}
use Rattle.refine.specs.Rounds.{held}
use Rattle.refine.specs.Refining.{refined_ends}
use Rattle.coding.specs.declared.Coded.{Coded}
use Rattle.coding.specs.Coding.{coded}
use Rattle.compress.specs.Sorted.{placed, place_of}

-- MAX_DISTANCE, 0.125, and 1 - MAX_DISTANCE
abbrev pub max_distance : Float
max_distance = bits 0x3e00_0000

abbrev pub from_one : Float
from_one = bits 0x3f60_0000

-- both ends are further than an eighth from 0 and 1, so that no sample gains by being left to these two values
abbrev pub far : Pair → Bool
far p = lt max_distance p.0 && lt p.1 from_one

-- The end that is nearer to its default moves: min up, or else max down.
abbrev pub upward : Held → Bool
upward h = lt h.min (f1 ⊖ h.max)

-- by one place
unfoldable pub candidate : List Float → Held → ℕ → ℕ → Held
candidate b h low high = cond (upward h) (held Four b (placed b (low + 1)) h.max) (held Four b h.min (placed b (high - 1)))

-- At most n moves towards each other, from places low and high, to the first that does not make the palette error strictly smaller.
unfoldable pub walked : List Float → ℕ → Held → ℕ → ℕ → Held
walked b zero h low high = h
walked b (suc n) h low high =
    let t = candidate b h low high in
    let up : ℕ = cond (upward h) 1 0 in
    cond (ltb low high) (cond (lt t.error h.error) (walked b n t (low + up) (high - (1 - up))) h) h

-- inter4_reassign_defaults
unfoldable pub reassigned : List Float → Pair → Pair
reassigned b p =
    let h = walked b 4 (held Four b p.0 p.1) (place_of b p.0) (place_of b p.1) in
    cond (far p) p (record { 0 = h.min; 1 = h.max })

abbrev pub first_ends : List Float → Bool → Pair → Pair
first_ends b reassign p = cond reassign (reassigned b p) p

unfoldable pub compress_inter4 : List Float → Options → Coded
compress_inter4 b o = coded Four b o.snorm o.dither (refined_ends Four b (first_ends b o.iter_initial_inter4 (min_max_with_threshold b bc4_min_value)) o)
