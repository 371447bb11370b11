-- The endpoints of a block: two bytes and the floats that they stand for. bc4.rs, `EndPoints`.
use Rattle.std.specs.Prelude.{ℕ, ◌≡◌, Bool, true, not, cond, ◌&&◌, Float}
use Rattle.floats.specs.declared.Pair.{Pair}
use Rattle.values.specs.Values.{level_byte, level_value, value_of, byte_below}
use Rattle.end_points.specs.declared.EndPoints.{EndPoints}
use Rattle.end_points.specs.Levels.{nearest_level, levels_of}

-- two bytes, with the floats of the bytes
unfoldable pub of_bytes : ℕ → ℕ → Bool → EndPoints
of_bytes c0 c1 snorm = record { c0 = c0; c1 = c1; c0_f = value_of c0 snorm; c1_f = value_of c1 snorm }

-- the nearest level and 0; in neither mode on purpose
unfoldable pub closest : Float → Bool → EndPoints
closest value snorm = of_bytes (level_byte (nearest_level value snorm) snorm) (level_byte 0 snorm) snorm

-- The two levels' floats, the larger first: the Rust hands them back in this order, and Medium compares min with the larger.
unfoldable pub quantized : Float → Float → Bool → Pair
quantized e0 e1 snorm = record { 0 = level_value (levels_of e0 e1 snorm).high snorm; 1 = level_value (levels_of e0 e1 snorm).low snorm }

-- Six-value mode wants c0 above c1. Signed bytes are swapped where they are not; that they always are is `inter6_sound`.
unfoldable pub swapped : ℕ → ℕ → Bool → EndPoints
swapped c0 c1 snorm = cond (snorm && not (byte_below c1 c0 snorm)) (of_bytes c1 c0 snorm) (of_bytes c0 c1 snorm)

unfoldable pub inter6 : Float → Float → Bool → EndPoints
inter6 e0 e1 snorm = swapped (level_byte (levels_of e0 e1 snorm).high snorm) (level_byte (levels_of e0 e1 snorm).low snorm) snorm

-- the other mode: the same two, exchanged
unfoldable pub exchanged : EndPoints → EndPoints
exchanged e = record { c0 = e.c1; c1 = e.c0; c0_f = e.c1_f; c1_f = e.c0_f }

unfoldable pub inter4 : Float → Float → Bool → EndPoints
inter4 e0 e1 snorm = exchanged (inter6 e0 e1 snorm)

-- What holds of all endpoints that the encoder makes: no signed byte is -128, and the floats are those of the bytes.
pub record Sound (snorm : Bool) (e : EndPoints) : Type 0 where
  pub c0_written : snorm ≡ true → e.c0 ≡ 128 → ⊥
  pub c1_written : snorm ≡ true → e.c1 ≡ 128 → ⊥
  pub c0_float : e.c0_f ≡ value_of e.c0 snorm
  pub c1_float : e.c1_f ≡ value_of e.c1 snorm
