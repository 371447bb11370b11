-- The two palettes of a pair of ends. bc4.rs, `Inter6Palette` and `Inter4Palette`; document 01, "Eight bytes".
use Rattle.std.specs.Prelude.{List, [], ◌∷◌, ℕ, get_or, take, Float}
use Rattle.std.specs.Float.{nan}
use Rattle.floats.specs.Arithmetic.{◌⊕◌, ◌⊖◌, ◌⊗◌, ◌⊘◌, whole, bits, f0, half, f1}
use Rattle.palette.specs.declared.inter6.Inter6Palette.{Inter6Palette}
use Rattle.palette.specs.declared.Kind.{Kind}
use Rattle.palette.specs.declared.Kind.TheVariants.{Six, Four}

-- entry k of a table of eight
abbrev pub entry : List Float → ℕ → Float
entry v k = get_or v k nan

-- ---- literals, by their bits: 7, sevenths and fifths, each rounded once (`Literals` of the crate `demands`)
abbrev pub f7 : Float
f7 = bits 0x40e0_0000

abbrev pub seventh : Float
seventh = bits 0x3e12_4925

abbrev pub fifth1 : Float
fifth1 = bits 0x3e4c_cccd

abbrev pub fifth2 : Float
fifth2 = bits 0x3ecc_cccd

abbrev pub fifth3 : Float
fifth3 = bits 0x3f19_999a

abbrev pub fifth4 : Float
fifth4 = bits 0x3f4c_cccd

-- ---- six values: a record of five, prepared for `closest`
unfoldable pub inter6_palette : Float → Float → Inter6Palette
inter6_palette c0 c1 =
    let factor1 = f7 ⊘ (c0 ⊖ c1) in
    record { c0 = c0; c1 = c1; factor1 = factor1; factor2 = seventh ⊗ (c0 ⊖ c1); add1 = half ⊖ c1 ⊗ factor1 }

-- INDEX_MAP: from the number of sevenths towards c0 to the index
abbrev pub index_map : List ℕ
index_map = 1 ∷ 7 ∷ 6 ∷ 5 ∷ 4 ∷ 3 ∷ 2 ∷ 0 ∷ []

-- the value k sevenths from c1 towards c0, as `closest` works it out
unfoldable pub blended : Inter6Palette → ℕ → Float
blended p k = whole k ⊗ p.factor2 ⊕ p.c1

-- ---- four values, 0 and 1, by index
unfoldable pub colors : Float → Float → List Float
colors c0 c1 =
    c0
    ∷ c1
    ∷ c0 ⊗ fifth4 ⊕ c1 ⊗ fifth1
    ∷ c0 ⊗ fifth3 ⊕ c1 ⊗ fifth2
    ∷ c0 ⊗ fifth2 ⊕ c1 ⊗ fifth3
    ∷ c0 ⊗ fifth1 ⊕ c1 ⊗ fifth4
    ∷ f0
    ∷ f1
    ∷ []

-- ---- the eight values that the error function looks at, in its order. For six values it goes from c0 to c1 by another formula than
-- `closest`, so the two may differ in the last bit; for four it starts with 0 and 1.
abbrev pub towards : Float → Float → Float → Float
towards c0 c1 part = c0 ⊕ (c1 ⊖ c0) ⊗ part

unfoldable pub values6 : Float → Float → List Float
values6 c0 c1 =
    c0
    ∷ towards c0 c1 seventh
    ∷ towards c0 c1 (bits 0x3e92_4925)
    ∷ towards c0 c1 (bits 0x3edb_6db7)
    ∷ towards c0 c1 (bits 0x3f12_4925)
    ∷ towards c0 c1 (bits 0x3f36_db6e)
    ∷ towards c0 c1 (bits 0x3f5b_6db7)
    ∷ towards c0 c1 f1
    ∷ []

unfoldable pub values4 : Float → Float → List Float
values4 c0 c1 = f0 ∷ f1 ∷ take 6 (colors c0 c1)

unfoldable pub values_of : Kind → Float → Float → List Float
values_of Six c0 c1 = values6 c0 c1
values_of Four c0 c1 = values4 c0 c1
