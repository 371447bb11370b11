-- What eight bytes mean. Document 01, "Eight bytes". A block is one number, byte 0 lowest: byte 0 is c0, byte 1 is c1, and from bit 16 on
-- stand the sixteen indexes, pixel i at bit 3i of these.
use Rattle.std.specs.Prelude.{List, [], ◌∷◌, Bool, cond, ℕ, ◌/◌, ◌^◌, Float}
use Rattle.values.specs.Values.{value_of, byte_below}
use Rattle.index_list.specs.Indexes.{index_at}
use Rattle.index_list.specs.Layout.{byte_at}
use Rattle.block.specs.Samples.{per_pixel}
use Rattle.palette.specs.Palettes.{entry, inter6_palette, blended, colors}

-- The mode: c0 > c1 as the bytes are written, signed for snorm, means six values, and anything else four.
abbrev pub is_six : ℕ → ℕ → Bool → Bool
is_six c0 c1 snorm = byte_below c1 c0 snorm

-- Six values of two ends, by index: 0 and 1 are the ends themselves, k from 2 on is 8 - k sevenths from c1 towards c0 as `closest` has it.
-- Index 0 is not 7 sevenths of that kind, which may differ in the last bit.
unfoldable pub six_values : Float → Float → List Float
six_values c0 c1 =
    let p = inter6_palette c0 c1 in
    c0 ∷ c1 ∷ blended p 6 ∷ blended p 5 ∷ blended p 4 ∷ blended p 3 ∷ blended p 2 ∷ blended p 1 ∷ []

-- the eight decoded floats of two ends, by index; four-value ones are the palette's entries
abbrev pub eight_of : Float → Float → Bool → List Float
eight_of c0 c1 six = cond six (six_values c0 c1) (colors c0 c1)

-- and of two bytes
unfoldable pub table_of : Bool → ℕ → ℕ → List Float
table_of snorm c0 c1 = eight_of (value_of c0 snorm) (value_of c1 snorm) (is_six c0 c1 snorm)

abbrev pub value_at : Bool → ℕ → ℕ → ℕ → Float
value_at snorm c0 c1 k = entry (table_of snorm c0 c1) k

-- the one of eight values that pixel i picks, by the indexes' bits
abbrev pub picked : List Float → ℕ → ℕ → Float
picked eight d i = entry eight (index_at d i)

-- the index of pixel i of a block
abbrev pub block_index : ℕ → ℕ → ℕ
block_index n i = index_at (n / 2 ^ 16) i

-- the decoded sample of pixel i
abbrev pub sample_at : Bool → ℕ → ℕ → Float
sample_at snorm n i = picked (table_of snorm (byte_at n 0) (byte_at n 1)) (n / 2 ^ 16) i

unfoldable pub decoded : ℕ → Bool → List Float
decoded n snorm = per_pixel (sample_at snorm n)
