-- Demand 3, the limits: under a larger limit a refinement ends on the same pair, or on one of strictly smaller palette error.
use mathlib.Core.Path.{◌≡◌, refl, sym, ap, ◌∙◌, subst}
use mathlib.Core.Logic.{◌⊎◌, inl, inr}
use mathlib.Core.Bool.{Bool, true, false, cond}
use mathlib.Core.List.{List}
use Prim.Native.Nat.{ℕ, zero, suc, ◌≤◌}
use native.Mathlib.Nat.{le_of_suc-le-suc}
use native.Mathlib.Omega.{arith}
use lib.Ieee.{Float, lt}
use Rattle.floats.specs.Arithmetic.{◌⊗◌, half}
use Rattle.floats.specs.declared.Pair.{Pair}
use Rattle.floats.proofs.Order.{lt_trans}
use Rattle.palette.specs.declared.Kind.{Kind}
use Rattle.palette.specs.PaletteError.{palette_error}
use Rattle.refine.specs.declared.rounds.Held.{Held}
use Rattle.refine.specs.Rounds.{held, better, tried, tried_to, round, rounds, refined}

-- the same, or strictly better by the errors that the two hold
abbrev pub Better : Held → Held → Type 0
Better h i = (i ≡ h) ⊎ (lt i.error h.error ≡ true)

pub better_trans : (h i j : Held) → Better h i → Better i j → Better h j
better_trans h i j (inl p) (inl q) = inl (q ∙ p)
better_trans h i j (inl p) (inr q) = inr (subst (λ (x : Held). lt j.error x.error ≡ true) p q)
better_trans h i j (inr p) (inl q) = inr (subst (λ (x : Held). lt x.error h.error ≡ true) (sym q) p)
better_trans h i j (inr p) (inr q) = inr (lt_trans j.error i.error h.error q p)

-- what holds in both arms of a choice, and of two choices by one test
arm : {A : Type 0} (P : A → Type 0) (t : Bool) (x y : A) → P x → P y → P (cond t x y)
arm P true x y p q = p
arm P false x y p q = q

arms : {A : Type 0} (R : A → A → Type 0) (t : Bool) (x y u v : A) → R x u → R y v → R (cond t x y) (cond t u v)
arms R true x y u v p q = p
arms R false x y u v p q = q

module _ (kind : Kind) (b : List Float) where
  -- the error is that of the pair
  abbrev pub Honest : Held → Type 0
  Honest h = h.error ≡ palette_error kind b h.min h.max

  pub held_honest : (min max : Float) → Honest (held kind b min max)
  unfolding held
  held_honest min max = refl

  -- ---- one candidate
  pub better_better : (h : Held) (min max : Float) → Better h (better kind b h min max)
  unfolding better held
  better_better h min max = go (lt (palette_error kind b min max) h.error) refl
    where
      go : (t : Bool) → lt (palette_error kind b min max) h.error ≡ t → Better h (cond t (record { min = min; max = max; error = palette_error kind b min max }) h)
      go true e = inr e
      go false e = inl refl

  pub better_honest : (h : Held) (min max : Float) → Honest h → Honest (better kind b h min max)
  unfolding better held
  better_honest h min max s = arm Honest (lt (palette_error kind b min max) h.error) (record { min = min; max = max; error = palette_error kind b min max }) h refl s

  tried_better : (h : Held) (min max : Float) → Better h (tried kind b h min max)
  unfolding tried
  tried_better h min max = arm (Better h) (lt min max) (better kind b h min max) h (better_better h min max) (inl refl)

  tried_honest : (h : Held) (min max : Float) → Honest h → Honest (tried kind b h min max)
  unfolding tried
  tried_honest h min max s = arm Honest (lt min max) (better kind b h min max) h (better_honest h min max s) s

  -- ---- one round, candidate by candidate
  round_better : (h : Held) (step : Float) (i : ℕ) → Better h (tried_to kind b h step i)
  unfolding tried_to
  round_better h step zero = inl refl
  round_better h step (suc i) = better_trans h (tried_to kind b h step i) _ (round_better h step i) (tried_better (tried_to kind b h step i) _ _)

  round_honest : (h : Held) (step : Float) (i : ℕ) → Honest h → Honest (tried_to kind b h step i)
  unfolding tried_to
  round_honest h step zero s = s
  round_honest h step (suc i) s = tried_honest (tried_to kind b h step i) _ _ (round_honest h step i s)

  -- ---- all rounds
  module _ (least : Float) where
    rounds_better : (n : ℕ) (step : Float) (h : Held) → Better h (rounds kind b least n step h)
    unfolding rounds
    rounds_better zero step h = inl refl
    rounds_better (suc n) step h =
        arm (Better h) (lt least step) _ h (better_trans h (round kind b h step) _ (round_better h step 4) (rounds_better n (step ⊗ half) (round kind b h step))) (inl refl)

    rounds_honest : (n : ℕ) (step : Float) (h : Held) → Honest h → Honest (rounds kind b least n step h)
    unfolding rounds
    rounds_honest zero step h s = s
    rounds_honest (suc n) step h s = arm Honest (lt least step) _ h (rounds_honest n (step ⊗ half) (round kind b h step) (round_honest h step 4 s)) s

    limits : (m n : ℕ) (step : Float) (h : Held) → m ≤ n → Better (rounds kind b least m step h) (rounds kind b least n step h)
    unfolding rounds
    limits zero n step h le = rounds_better n step h
    limits (suc m) zero step h le = absurd (omega arith)
    limits (suc m) (suc n) step h le = arms Better (lt least step) _ h _ h (limits m n (step ⊗ half) (round kind b h step) (le_of_suc-le-suc le)) (inl refl)

    -- the palette error of a pair
    abbrev error_of : Pair → Float
    error_of p = palette_error kind b p.0 p.1

    pub refined_limits : (m n : ℕ) (step min max : Float) → m ≤ n
        → (refined kind b least n step min max ≡ refined kind b least m step min max) ⊎ (lt (error_of (refined kind b least n step min max)) (error_of (refined kind b least m step min max)) ≡ true)
    unfolding refined
    refined_limits m n step min max le =
        let h = held kind b min max in
        elim (limits m n step h le) [
          | inl e ↦ inl (ap (λ (x : Held). pair_of x) e)
          | inr e ↦ inr (rw (← rounds_honest n step h (held_honest min max), ← rounds_honest m step h (held_honest min max)) e)
        ]
      where
        pair_of : Held → Pair
        pair_of h = record { 0 = h.min; 1 = h.max }
