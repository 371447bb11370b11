-- The two levels of a pair of floats, always different: what `quantize`, `new_inter6` and `new_inter4` have in common.
-- Document 01, "Encoder steps"; bc4.rs, `EndPoints::quantize`. Levels are 0 to 255 unsigned and 0 to 254 signed.
use Rattle.std.specs.Prelude.{ℕ, ◌-◌, Bool, cond, eqb, Float}
use Rattle.floats.specs.Arithmetic.{◌⊕◌, ◌⊖◌, ◌⊗◌, half, f1, f254, f255}
use Rattle.floats.specs.Helpers.{min_of, max_of, clamp_of, byte_of}
use Rattle.values.specs.Values.{steps}
use Rattle.end_points.specs.declared.levels.Levels.{Levels}

-- the level that means 1, as f32
abbrev pub scale : Bool → Float
scale snorm = cond snorm f254 f255

-- round to nearest
abbrev pub nearest_level : Float → Bool → ℕ
nearest_level x snorm = byte_of (scale snorm ⊗ x ⊕ half)

-- round down
abbrev pub rounded_down : Float → Bool → ℕ
rounded_down x snorm = byte_of (scale snorm ⊗ x)

-- the level's distance from the top, rounded down
abbrev pub down_from_top : Bool → Float → ℕ
down_from_top snorm x = byte_of (scale snorm ⊗ (f1 ⊖ x))

-- round up
abbrev pub rounded_up : Float → Bool → ℕ
rounded_up x snorm = steps snorm - down_from_top snorm x

abbrev pub levels : ℕ → ℕ → Levels
levels low high = record { low = low; high = high }

-- two levels made different
unfoldable pub apart : ℕ → ℕ → Levels
apart low high = cond (eqb low high) (cond (eqb low 0) (levels low 1) (levels (low - 1) high)) (levels low high)

-- of a smaller and a larger float: each to the nearest level, or, where that is one level, outwards from each other
unfoldable pub levels_between : Float → Float → Bool → Levels
levels_between min max snorm =
    cond (eqb (nearest_level min snorm) (nearest_level max snorm))
    (apart (rounded_down min snorm) (rounded_up max snorm))
    (levels (nearest_level min snorm) (nearest_level max snorm))

-- signed ends are clamped first, which keeps a NaN; unsigned ones are left to the casts
abbrev pub in_format : Float → Bool → Float
in_format x snorm = cond snorm (clamp_of x) x

unfoldable pub levels_of : Float → Float → Bool → Levels
levels_of e0 e1 snorm = levels_between (in_format (min_of e0 e1) snorm) (in_format (max_of e0 e1) snorm) snorm
