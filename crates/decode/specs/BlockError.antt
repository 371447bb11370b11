-- Block error. Document 01, "Calls and numbers": samples clamped as at entry, then in order 0 to 15 the f32 sum, from +0, of
-- (sample - value)·(sample - value), the value being the decoded one.
use Rattle.std.specs.Prelude.{List, Bool, ℕ, zero, suc, Float}
use Rattle.floats.specs.Arithmetic.{◌⊕◌, ◌⊖◌, squared, f0}
use Rattle.floats.specs.Helpers.{entry_clamp}
use Rattle.block.specs.Samples.{pixel_at}
use Rattle.decode.specs.Meaning.{decoded}

-- what one sample adds
unfoldable pub sample_error : Float → Float → Float
sample_error sample value = squared (entry_clamp sample ⊖ value)

-- the sum over pixels 0 to k - 1
unfoldable pub error_to : List Float → List Float → ℕ → Float
error_to s v zero = f0
error_to s v (suc k) = error_to s v k ⊕ sample_error (pixel_at s k) (pixel_at v k)

unfoldable pub block_error : List Float → ℕ → Bool → Float
block_error s n snorm = error_to s (decoded n snorm) 16
