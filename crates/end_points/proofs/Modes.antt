-- Endpoints of any two floats, NaN included, are in the mode that they were made for, and Sound; quantize hands back their floats.
use mathlib.Core.Path.{◌≡◌, refl, sym, ap}
use Prim.Native.Nat.{ℕ, ◌≤◌}
use native.Mathlib.Omega.{arith}
use mathlib.Core.Bool.{Bool, true, false}
use lib.Ieee.{Float, lt, le}
use Rattle.floats.specs.Arithmetic.{f1}
use Rattle.floats.proofs.Tests.{clash}
use Rattle.values.specs.Values.{steps, level_byte, level_value, byte_below}
use Rattle.values.proofs.Levels.{level_value_lt, level_back, from_norm_never_128}
use Rattle.values.proofs.SignedBytes.{level_order}
use Rattle.end_points.specs.declared.EndPoints.{EndPoints}
use Rattle.end_points.specs.Levels.{nearest_level, levels_of}
use Rattle.end_points.specs.EndPoints.{of_bytes, closest, quantized, swapped, inter6, exchanged, inter4, Sound}
use Rattle.end_points.proofs.Rounded.{nearest-le}
use Rattle.end_points.proofs.Ordered.{levels_distinct}

byte_written : (snorm : Bool) (n : ℕ) → n ≤ steps snorm → snorm ≡ true → level_byte n snorm ≡ 128 → ⊥
byte_written true n h e = from_norm_never_128 n h
byte_written false n h e = clash e refl

of_levels_sound : (snorm : Bool) (m n : ℕ) → m ≤ steps snorm → n ≤ steps snorm → Sound snorm (of_bytes (level_byte m snorm) (level_byte n snorm) snorm)
unfolding of_bytes
of_levels_sound snorm m n h k = record { c0_written = byte_written snorm m h; c1_written = byte_written snorm n k; c0_float = refl; c1_float = refl }

-- the swap is never made
pub inter6_is : (snorm : Bool) (e0 e1 : Float) → inter6 e0 e1 snorm ≡ of_bytes (level_byte (levels_of e0 e1 snorm).high snorm) (level_byte (levels_of e0 e1 snorm).low snorm) snorm
unfolding inter6 swapped
inter6_is true e0 e1 =
    let d = levels_distinct true e0 e1 in
    rw (level_order true (levels_of e0 e1 true).low (levels_of e0 e1 true).high d.order d.top)
inter6_is false e0 e1 = refl

pub inter6_sound : (snorm : Bool) (e0 e1 : Float) → Sound snorm (inter6 e0 e1 snorm)
inter6_sound snorm e0 e1 =
    let d = levels_distinct snorm e0 e1 in
    rw (inter6_is snorm e0 e1) (of_levels_sound snorm (levels_of e0 e1 snorm).high (levels_of e0 e1 snorm).low d.top (omega (arith, d.order, d.top)))

-- six-value mode: c0 is above c1
pub inter6_order : (snorm : Bool) (e0 e1 : Float) → byte_below (inter6 e0 e1 snorm).c1 (inter6 e0 e1 snorm).c0 snorm ≡ true
unfolding of_bytes
inter6_order snorm e0 e1 =
    let d = levels_distinct snorm e0 e1 in
    rw (inter6_is snorm e0 e1) (level_order snorm (levels_of e0 e1 snorm).low (levels_of e0 e1 snorm).high d.order d.top)

exchanged_sound : (snorm : Bool) (e : EndPoints) → Sound snorm e → Sound snorm (exchanged e)
unfolding exchanged
exchanged_sound snorm e s = record { c0_written = s.c1_written; c1_written = s.c0_written; c0_float = s.c1_float; c1_float = s.c0_float }

pub inter4_sound : (snorm : Bool) (e0 e1 : Float) → Sound snorm (inter4 e0 e1 snorm)
unfolding inter4
inter4_sound snorm e0 e1 = exchanged_sound snorm (inter6 e0 e1 snorm) (inter6_sound snorm e0 e1)

-- four-value mode: c0 is below c1
pub inter4_order : (snorm : Bool) (e0 e1 : Float) → byte_below (inter4 e0 e1 snorm).c0 (inter4 e0 e1 snorm).c1 snorm ≡ true
unfolding inter4 exchanged
inter4_order snorm e0 e1 = inter6_order snorm e0 e1

-- `closest` of a value in 0..1
pub closest_sound : (snorm : Bool) (value : Float) → le value f1 ≡ true → Sound snorm (closest value snorm)
unfolding closest
closest_sound snorm value h = of_levels_sound snorm (nearest_level value snorm) 0 (nearest-le snorm value h) (omega arith)

-- ---- quantize hands back the floats of `new_inter6`, and the first is above the second
pub quantized_is : (snorm : Bool) (e0 e1 : Float) → ((quantized e0 e1 snorm).0 ≡ (inter6 e0 e1 snorm).c0_f) × ((quantized e0 e1 snorm).1 ≡ (inter6 e0 e1 snorm).c1_f)
unfolding quantized of_bytes
quantized_is snorm e0 e1 =
    let d = levels_distinct snorm e0 e1 in
    rw (inter6_is snorm e0 e1)
    (sym (ap (λ (n : ℕ). level_value n snorm) (level_back snorm (levels_of e0 e1 snorm).high d.top)), sym (ap (λ (n : ℕ). level_value n snorm) (level_back snorm (levels_of e0 e1 snorm).low (omega (arith, d.order, d.top)))))

pub quantized_order : (snorm : Bool) (e0 e1 : Float) → lt (quantized e0 e1 snorm).1 (quantized e0 e1 snorm).0 ≡ true
unfolding quantized
quantized_order snorm e0 e1 =
    let d = levels_distinct snorm e0 e1 in
    level_value_lt snorm (levels_of e0 e1 snorm).low (levels_of e0 e1 snorm).high d.order (few snorm d.top)
  where
    few : (snorm : Bool) {n : ℕ} → n ≤ steps snorm → n ≤ 255
    few true h = omega arith
    few false h = h
