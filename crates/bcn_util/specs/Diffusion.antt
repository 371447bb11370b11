-- A modified Floyd-Steinberg step: where the error of one pixel goes. bcn_util.rs, `block_dither`; document 01, "Encoder steps".
--
--                right  next left  next middle  next right      sixteenths
--    column 0      7        0           6            2           15
--    column 1, 2   7        3           5            1           16
--    column 3      0        5           7            0           12
--    last row      8        0           0            0            8
use Rattle.std.specs.Prelude.{List, [], ◌∷◌, Bool, cond, ◌&&◌, ℕ, ◌+◌, ◌*◌, ◌%◌, get_or, set, ltb, Float}
use Rattle.std.specs.Float.{nan}
use Rattle.floats.specs.Arithmetic.{◌⊕◌, ◌⊗◌, bits, f0, half}

-- the table: a row of four for each column and one for the last row
abbrev pub sixteenths : List ℕ
sixteenths = 7 ∷ 0 ∷ 6 ∷ 2 ∷ 7 ∷ 3 ∷ 5 ∷ 1 ∷ 7 ∷ 3 ∷ 5 ∷ 1 ∷ 0 ∷ 5 ∷ 7 ∷ 0 ∷ 8 ∷ 0 ∷ 0 ∷ 0 ∷ []

-- as floats, by their bits; that they are these sixteenths is `weights_are` in proofs/
unfoldable pub weights : List Float
weights =
    bits 0x3ee0_0000 ∷ f0 ∷ bits 0x3ec0_0000 ∷ bits 0x3e00_0000
    ∷ bits 0x3ee0_0000 ∷ bits 0x3e40_0000 ∷ bits 0x3ea0_0000 ∷ bits 0x3d80_0000
    ∷ bits 0x3ee0_0000 ∷ bits 0x3e40_0000 ∷ bits 0x3ea0_0000 ∷ bits 0x3d80_0000
    ∷ f0 ∷ bits 0x3ea0_0000 ∷ bits 0x3ee0_0000 ∷ f0
    ∷ half ∷ f0 ∷ f0 ∷ f0
    ∷ []

-- the row of the table for pixel i
abbrev pub table_row : ℕ → ℕ
table_row i = cond (ltb i 12) (i % 4) 4

-- the share of the error of pixel i that goes in direction k: 0 right, 1 next left, 2 next middle, 3 next right
abbrev pub share : ℕ → ℕ → Float
share i k = get_or weights (4 * table_row i + k) nan

-- v added to the map at pixel j, where the block has that pixel
unfoldable pub given : Bool → List Float → ℕ → Float → List Float
given there m j v = cond there (set m j (get_or m j nan ⊕ v)) m

-- the error map after pixel i was off by `error`
unfoldable pub diffused : List Float → ℕ → Float → List Float
diffused m i error =
    let below = ltb i 12 in
    given (ltb (i % 4) 3 && below)
    (given below
    (given (ltb 0 (i % 4) && below)
    (given (ltb (i % 4) 3) m
    (i + 1) (error ⊗ share i 0))
    (i + 3) (error ⊗ share i 1))
    (i + 4) (error ⊗ share i 2))
    (i + 5) (error ⊗ share i 3)
