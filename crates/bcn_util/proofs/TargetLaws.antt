-- The error map after a pixel, by the table's targets and shares.
use mathlib.Core.Path.{◌≡◌, refl}
use mathlib.Core.List.{List}
use Prim.Native.Nat.{ℕ, zero, suc, ◌<◌}
use native.Mathlib.Omega.{arith}
use lib.Ieee.{Float, of_bits, of_int, div}
use Rattle.bcn_util.specs.Diffusion.{weights, given, diffused}
use Rattle.bcn_util.specs.Targets.{served}

module _ (m : List Float) (error : Float) where
  pub diffused_targets : (i : ℕ) → i < 16 → diffused m i error ≡ served m i error
  unfolding diffused given weights of_bits of_int div
  diffused_targets zero h = refl
  diffused_targets (suc zero) h = refl
  diffused_targets (suc (suc zero)) h = refl
  diffused_targets (suc (suc (suc zero))) h = refl
  diffused_targets (suc (suc (suc (suc zero)))) h = refl
  diffused_targets (suc (suc (suc (suc (suc zero))))) h = refl
  diffused_targets (suc (suc (suc (suc (suc (suc zero)))))) h = refl
  diffused_targets (suc (suc (suc (suc (suc (suc (suc zero))))))) h = refl
  diffused_targets (suc (suc (suc (suc (suc (suc (suc (suc zero)))))))) h = refl
  diffused_targets (suc (suc (suc (suc (suc (suc (suc (suc (suc zero))))))))) h = refl
  diffused_targets (suc (suc (suc (suc (suc (suc (suc (suc (suc (suc zero)))))))))) h = refl
  diffused_targets (suc (suc (suc (suc (suc (suc (suc (suc (suc (suc (suc zero))))))))))) h = refl
  diffused_targets (suc (suc (suc (suc (suc (suc (suc (suc (suc (suc (suc (suc zero)))))))))))) h = refl
  diffused_targets (suc (suc (suc (suc (suc (suc (suc (suc (suc (suc (suc (suc (suc zero))))))))))))) h = refl
  diffused_targets (suc (suc (suc (suc (suc (suc (suc (suc (suc (suc (suc (suc (suc (suc zero)))))))))))))) h = refl
  diffused_targets (suc (suc (suc (suc (suc (suc (suc (suc (suc (suc (suc (suc (suc (suc (suc zero))))))))))))))) h = refl
  diffused_targets (suc (suc (suc (suc (suc (suc (suc (suc (suc (suc (suc (suc (suc (suc (suc (suc i)))))))))))))))) h = absurd (omega arith)
