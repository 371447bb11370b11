-- One step of a scan for the least: with a NaN anywhere, nothing scanned is below the best.
use Rattle.std.proofs.Common.{◌≡◌, Bool, true, false, cond, refl, ⊎_elim}
use lib.Ieee.{Float, lt}
use Rattle.floats.specs.Helpers.{lane_min}
use Rattle.floats.proofs.Tests.{clash, either}
use Rattle.floats.proofs.Order.{lt_irrefl, lt_trans}

-- what is not below the best is not below a better one
pub lane_min_keeps : (y x a : Float) → lt y a ≡ false → lt y (lane_min x a) ≡ false
lane_min_keeps y x a h = go (lt x a) refl
  where
    go : (t : Bool) → lt x a ≡ t → lt y (cond t x a) ≡ false
    go true e = ⊎_elim (λ k. clash (lt_trans y x a k e) h) (λ k. k) (either (lt y x))
    go false e = h

-- the one that is scanned is not below the best after it
pub lane_min_passed : (x a : Float) → lt x (lane_min x a) ≡ false
lane_min_passed x a = go (lt x a) refl
  where
    go : (t : Bool) → lt x a ≡ t → lt x (cond t x a) ≡ false
    go true e = lt_irrefl x
    go false e = e
