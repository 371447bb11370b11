-- Where the error of each pixel goes, pixel by pixel, for reading beside document 01, "Encoder steps": dither weights in sixteenths, rows 0 to 2
-- (right, next-left, next-middle, next-right): column 0: 7,0,6,2; columns 1 and 2: 7,3,5,1; column 3: 0,5,7,0. Row 3: right 8, columns 0 to 2,
-- nothing else. That `diffused` gives exactly these is `diffused_targets` in proofs/.
use mathlib.Core.List.{List, [], ◌∷◌, foldl}
use Rattle.std.specs.Prelude.{ℕ, get_or, set, Float}
use Rattle.std.specs.Float.{nan}
use Rattle.floats.specs.Arithmetic.{◌⊕◌, ◌⊗◌, ◌⊘◌, whole}

-- For each pixel who is given how many sixteenths, in this order. A share of 0 is not given at all, and is left out. The pixels:
--    0  1  2  3
--    4  5  6  7
--    8  9 10 11
--   12 13 14 15
abbrev pub targets : List (List (ℕ × ℕ))
targets =
    ((1, 7) ∷ (4, 6) ∷ (5, 2) ∷ [])
    ∷ ((2, 7) ∷ (4, 3) ∷ (5, 5) ∷ (6, 1) ∷ [])
    ∷ ((3, 7) ∷ (5, 3) ∷ (6, 5) ∷ (7, 1) ∷ [])
    ∷ ((6, 5) ∷ (7, 7) ∷ [])
    -- row 1
    ∷ ((5, 7) ∷ (8, 6) ∷ (9, 2) ∷ [])
    ∷ ((6, 7) ∷ (8, 3) ∷ (9, 5) ∷ (10, 1) ∷ [])
    ∷ ((7, 7) ∷ (9, 3) ∷ (10, 5) ∷ (11, 1) ∷ [])
    ∷ ((10, 5) ∷ (11, 7) ∷ [])
    -- row 2
    ∷ ((9, 7) ∷ (12, 6) ∷ (13, 2) ∷ [])
    ∷ ((10, 7) ∷ (12, 3) ∷ (13, 5) ∷ (14, 1) ∷ [])
    ∷ ((11, 7) ∷ (13, 3) ∷ (14, 5) ∷ (15, 1) ∷ [])
    ∷ ((14, 5) ∷ (15, 7) ∷ [])
    -- row 3
    ∷ ((13, 8) ∷ [])
    ∷ ((14, 8) ∷ [])
    ∷ ((15, 8) ∷ [])
    ∷ []
    ∷ []

-- the map with n sixteenths of the error added at pixel j
abbrev pub handed : Float → List Float → ℕ × ℕ → List Float
handed error m (j, n) = set m j (get_or m j nan ⊕ error ⊗ (whole n ⊘ whole 16))

-- and with all of pixel i's targets served
abbrev pub served : List Float → ℕ → Float → List Float
served m i error = foldl (handed error) m (get_or targets i [])
