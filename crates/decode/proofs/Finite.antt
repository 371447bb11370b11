-- A block error is at most 64, whatever the samples: finite, and no NaN, so that a comparison of two means what it says.
use mathlib.Core.Path.{◌≡◌, subst}
use mathlib.Core.Bool.{Bool}
use mathlib.Core.List.{List}
use Prim.Native.Nat.{ℕ, zero, suc, ◌+◌, ◌*◌, ◌≤◌}
use native.Mathlib.Omega.{arith}
use lib.Dec.{lit≤}
use lib.Ieee.{Float, binary32, of_bits}
use Rattle.floats.specs.Arithmetic.{◌⊖◌}
use Rattle.floats.specs.Helpers.{entry_clamp}
use Rattle.floats.specs.Bounds.{Within}
use Rattle.floats.proofs.Ranges.{entry_from_0, entry_to_1}
use Rattle.floats.proofs.Bounds.{add_within, sub_within, mul_within, unit_within}
use Rattle.block.specs.Samples.{pixel_at}
use Rattle.block.specs.Block.{InUnit}
use Rattle.decode.specs.Meaning.{decoded}
use Rattle.decode.specs.BlockError.{sample_error, error_to, block_error}
use Rattle.decode.proofs.Unit.{decoded_unit}

-- entry leaves any sample in 0..1, a NaN too
sample_error_within : (sample value : Float) → Within 1 value → Within 4 (sample_error sample value)
unfolding sample_error
sample_error_within sample value h =
    let x = entry_clamp sample in
    let d = sub_within binary32 1 1 x value (lit≤ tt) (unit_within x (entry_from_0 sample) (entry_to_1 sample)) h in
    mul_within binary32 2 2 (x ⊖ value) (x ⊖ value) (lit≤ tt) d d

error_to_within : (s v : List Float) → InUnit v → (k : ℕ) → k ≤ 16 → Within (4 * k) (error_to s v k)
unfolding error_to
error_to_within s v u zero h = unfold of_bits in lit≤ tt
error_to_within s v u (suc k) h =
    subst (λ (B : ℕ). Within B (error_to s v (suc k))) (next k)
    (add_within binary32 (4 * k) 4 (error_to s v k) (sample_error (pixel_at s k) (pixel_at v k)) (few k h) (error_to_within s v u k (omega arith))
    (sample_error_within (pixel_at s k) (pixel_at v k) (unit_within (pixel_at v k) (u.from_0_lem k h) (u.to_1 k h))))
  where
    next : (k : ℕ) → 4 * k + 4 ≡ 4 * suc k
    next k = omega arith

    few : (k : ℕ) → suc k ≤ 16 → 4 * k + 4 ≤ 16777216
    few k h = omega arith

pub block_error_within : (snorm : Bool) (s : List Float) (n : ℕ) → Within 64 (block_error s n snorm)
unfolding block_error
block_error_within snorm s n = error_to_within s (decoded n snorm) (decoded_unit snorm n) 16 (lit≤ tt)
