-- Endpoints as the encoder makes them: two bytes, and Sound.
use mathlib.Core.Path.{◌≡◌, refl}
use mathlib.Core.Bool.{Bool, true, false}
use Prim.Native.Nat.{ℕ, ◌<◌}
use native.Mathlib.Omega.{arith}
use lib.Ieee.{Float, le}
use Rattle.floats.specs.Arithmetic.{f1}
use Rattle.floats.proofs.Tests.{clash}
use Rattle.values.proofs.Levels.{level_byte_lt}
use Rattle.end_points.specs.declared.EndPoints.{EndPoints}
use Rattle.end_points.specs.Levels.{nearest_level, levels_of}
use Rattle.end_points.specs.EndPoints.{of_bytes, closest, inter6, exchanged, inter4, Sound}
use Rattle.end_points.proofs.Rounded.{nearest-le}
use Rattle.end_points.proofs.Ordered.{levels_distinct, low_le}
use Rattle.end_points.proofs.Modes.{inter6_is, inter6_sound, inter4_sound, closest_sound}

pub record Made (snorm : Bool) (e : EndPoints) : Type 0 where
  pub c0_lt : e.c0 < 256
  pub c1_lt : e.c1 < 256
  pub sound : Sound snorm e

module _ (snorm : Bool) (e0 e1 : Float) where
  inter6_lt : ((inter6 e0 e1 snorm).c0 < 256) × ((inter6 e0 e1 snorm).c1 < 256)
  unfolding of_bytes
  inter6_lt =
      let d = levels_distinct snorm e0 e1 in
      rw (inter6_is snorm e0 e1) (level_byte_lt snorm (levels_of e0 e1 snorm).high d.top, level_byte_lt snorm (levels_of e0 e1 snorm).low (low_le snorm (levels_of e0 e1 snorm) d))

  pub inter6_made : Made snorm (inter6 e0 e1 snorm)
  inter6_made = record { c0_lt = inter6_lt.0; c1_lt = inter6_lt.1; sound = inter6_sound snorm e0 e1 }

  pub inter4_made : Made snorm (inter4 e0 e1 snorm)
  unfolding inter4 exchanged
  inter4_made = record { c0_lt = inter6_lt.1; c1_lt = inter6_lt.0; sound = inter4_sound snorm e0 e1 }

-- any two bytes, unsigned
pub bytes_made : (c0 c1 : ℕ) → c0 < 256 → c1 < 256 → Made false (of_bytes c0 c1 false)
unfolding of_bytes
bytes_made c0 c1 h k = record {
  c0_lt = h;
  c1_lt = k;
  sound = record { c0_written = λ e. clash e refl; c1_written = λ e. clash e refl; c0_float = refl; c1_float = refl };
}

-- of a value up to 1
pub closest_made : (snorm : Bool) (value : Float) → le value f1 ≡ true → Made snorm (closest value snorm)
unfolding closest of_bytes
closest_made snorm value h = record {
  c0_lt = level_byte_lt snorm (nearest_level value snorm) (nearest-le snorm value h);
  c1_lt = level_byte_lt snorm 0 (omega arith);
  sound = closest_sound snorm value h;
}
