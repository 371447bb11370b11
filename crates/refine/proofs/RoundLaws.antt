-- The rounds of one refinement, by steps of the loops.
use mathlib.Core.Path.{◌≡◌, refl}
use mathlib.Core.Bool.{true, false, cond}
use mathlib.Core.List.{List, [], ◌∷◌}
use Prim.Native.Nat.{ℕ, zero, suc, ◌+◌, ◌-◌, ◌≤◌, ◌<◌}
use native.Mathlib.Nat.{lt_irrefl}
use native.Mathlib.Numerals.{add-one, sub-one}
use native.Mathlib.Omega.{arith}
use lib.ListN.{get_or}
use lib.Ieee.{Float, nan, neg, lt}
use Rattle.floats.specs.Arithmetic.{◌⊕◌, ◌⊗◌, f0, half}
use Rattle.floats.specs.Helpers.{clamp_of}
use Rattle.floats.specs.declared.Pair.{Pair}
use Rattle.palette.specs.declared.Kind.{Kind}
use Rattle.refine.specs.declared.rounds.Held.{Held}
use Rattle.refine.specs.Rounds.{held, better, delta_min, delta_max, tried, tried_to, round, rounds}

-- the steps of a round's candidates, as the code lists them
abbrev pub delta : Float → ℕ → Pair
delta step i =
    let pair : Float → Float → Pair = λ min max. record { 0 = min; 1 = max } in
    get_or (pair step f0 ∷ pair f0 step ∷ pair (neg step) f0 ∷ pair f0 (neg step) ∷ []) i (pair nan nan)

delta_is : (step : Float) (i : ℕ) → i < 4 → delta step i ≡ record { 0 = delta_min step i; 1 = delta_max step i }
delta_is step zero h = refl
delta_is step (suc zero) h = refl
delta_is step (suc (suc zero)) h = refl
delta_is step (suc (suc (suc zero))) h = refl
delta_is step (suc (suc (suc (suc i)))) h = absurd (omega arith)

module _ (kind : Kind) (b : List Float) where
  -- as the code has it, with the candidate held under a name
  pub better_is : (h : Held) (min max : Float) (s : Held) → s ≡ held kind b min max → better kind b h min max ≡ cond (lt s.error h.error) s h
  unfolding better held
  better_is h min max s e = rw e

  -- one candidate more
  pub tried_more : (start : Held) (step : Float) (i : ℕ) → i < 4
      → tried_to kind b start step (i + 1) ≡ tried kind b (tried_to kind b start step i) (clamp_of (start.min ⊕ (delta step i).0)) (clamp_of (start.max ⊕ (delta step i).1))
  unfolding tried_to
  tried_more start step i h = rw (add-one, delta_is step i h)

  module _ (least : Float) where
    -- one round more, while rounds are left and the step is above the least
    pub rounds_step : (n : ℕ) (step : Float) (h : Held) → 0 < n → lt least step ≡ true → rounds kind b least n step h ≡ rounds kind b least (n - 1) (step ⊗ half) (round kind b h step)
    unfolding rounds
    rounds_step zero step h p t = absurd (lt_irrefl 0 p)
    rounds_step (suc n) step h p t = rw (t, sub-one)

    pub rounds_end : (n : ℕ) (step : Float) (h : Held) → lt least step ≡ false → rounds kind b least n step h ≡ h
    unfolding rounds
    rounds_end zero step h t = refl
    rounds_end (suc n) step h t = rw t

    pub rounds_none : (n : ℕ) (step : Float) (h : Held) → n ≤ 0 → rounds kind b least n step h ≡ h
    unfolding rounds
    rounds_none zero step h t = refl
    rounds_none (suc n) step h t = absurd (omega arith)
