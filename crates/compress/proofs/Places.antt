-- The samples by place and the moves between places, by steps of the loops.
use mathlib.Core.Path.{◌≡◌, refl}
use mathlib.Core.Bool.{Bool, true, false, cond}
use mathlib.Core.List.{List}
use Prim.Native.Nat.{ℕ, zero, suc, ◌+◌, ◌-◌, ◌≤◌, ◌<◌}
use native.Mathlib.Nat.{lt_irrefl}
use native.Mathlib.Numerals.{add-one, sub-one}
use native.Mathlib.Omega.{arith}
use borrow.Author.Tests.{lt-ltb, le-ltb}
use lib.Dec.{ltb}
use lib.Ieee.{Float, le, lt, eq}
use Rattle.floats.specs.Arithmetic.{f0}
use Rattle.block.specs.Samples.{pixel_at}
use Rattle.refine.specs.declared.rounds.Held.{Held}
use Rattle.compress.specs.Sorted.{count_to}
use Rattle.compress.specs.Network.{first_zero_to}
use Rattle.compress.specs.Inter4.{upward, candidate, walked}

-- both arms the same
either : (t : Bool) (h : Held) → cond t h h ≡ h
either true h = refl
either false h = refl

module _ (b : List Float) where
  -- one sample more
  pub count_more : (x : Float) (i : ℕ) → count_to b x (i + 1) ≡ count_to b x i + cond (le (pixel_at b i) x) 1 0
  unfolding count_to
  count_more x i = rw add-one

  pub first_zero_more : (i : ℕ) → first_zero_to b (i + 1) ≡ cond (eq (first_zero_to b i) f0) (first_zero_to b i) (pixel_at b i)
  unfolding first_zero_to
  first_zero_more i = rw add-one

  -- one move more, while moves are left, places remain between the two and the error gets smaller
  pub walked_step : (n : ℕ) (h : Held) (low high : ℕ) → 0 < n → low < high → lt (candidate b h low high).error h.error ≡ true
      → walked b n h low high ≡ walked b (n - 1) (candidate b h low high) (low + cond (upward h) 1 0) (high - (1 - cond (upward h) 1 0))
  unfolding walked
  walked_step zero h low high p t s = absurd (lt_irrefl 0 p)
  walked_step (suc n) h low high p t s = rw (lt-ltb low high t, s, sub-one)

  pub walked_met : (n : ℕ) (h : Held) (low high : ℕ) → high ≤ low → walked b n h low high ≡ h
  unfolding walked
  walked_met zero h low high t = refl
  walked_met (suc n) h low high t = rw (le-ltb low high t)

  pub walked_failed : (n : ℕ) (h : Held) (low high : ℕ) → lt (candidate b h low high).error h.error ≡ false → walked b n h low high ≡ h
  unfolding walked
  walked_failed zero h low high t = refl
  walked_failed (suc n) h low high t = rw t (either (ltb low high) h)

  pub walked_none : (n : ℕ) (h : Held) (low high : ℕ) → n ≤ 0 → walked b n h low high ≡ h
  unfolding walked
  walked_none zero h low high t = refl
  walked_none (suc n) h low high t = absurd (omega arith)
