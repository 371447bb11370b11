-- Demand 3, the rounding: medium and high never pick a pair whose palette error is larger than that of plain rounding of the same pair.
use mathlib.Core.Path.{◌≡◌, refl}
use mathlib.Core.Logic.{inl, inr}
use mathlib.Core.Bool.{Bool, false}
use mathlib.Core.List.{List, [], ◌∷◌}
use Prim.Native.Nat.{ℕ, zero, suc, ◌+◌, ◌<◌}
use native.Mathlib.Numerals.{add-one}
use native.Mathlib.Omega.{arith}
use lib.ListN.{get_or}
use lib.Ieee.{Float, nan, lt}
use Rattle.floats.specs.Arithmetic.{◌⊕◌, ◌⊖◌}
use Rattle.floats.specs.declared.Pair.{Pair}
use Rattle.floats.proofs.Order.{lt_irrefl, lt_asym}
use Rattle.palette.specs.declared.Kind.{Kind}
use Rattle.palette.specs.PaletteError.{palette_error}
use Rattle.refine.specs.declared.rounds.Held.{Held}
use Rattle.options.specs.declared.Quantization.TheVariants.{MediumQuality, HighQuality}
use Rattle.refine.specs.Rounds.{held}
use Rattle.refine.specs.Refining.{quant_step, quantized_pair, held_pair, better_pair, other_pair, medium, closer_pair, high_to, pair_of, quantizing}
use Rattle.refine.proofs.Limits.{Better, better_trans, better_better, better_honest, held_honest, Honest}

-- the pairs that high rounding tries, as the code lists them
abbrev pub closer : Pair → ℕ → Pair
closer p i =
    let pair : Float → Float → Pair = λ min max. record { 0 = min; 1 = max } in
    let up = p.0 ⊕ quant_step in
    let down = p.1 ⊖ quant_step in
    get_or (pair up p.1 ∷ pair p.0 down ∷ pair up down ∷ []) i (pair nan nan)

closer_is : (p : Pair) (i : ℕ) → i < 3 → closer p i ≡ closer_pair p (i + 1)
closer_is p zero h = refl
closer_is p (suc zero) h = refl
closer_is p (suc (suc zero)) h = refl
closer_is p (suc (suc (suc i))) h = absurd (omega arith)

module _ (kind : Kind) (b : List Float) (snorm : Bool) (p : Pair) where
  -- one pair more
  pub high_more : (i : ℕ) → i < 3 → high_to kind b snorm p (i + 1) ≡ better_pair kind b (high_to kind b snorm p i) (quantized_pair snorm (closer p i))
  unfolding high_to
  high_more i h = rw (closer_is p i h, add-one)

  high_better : (i : ℕ) → Better (held_pair kind b (quantized_pair snorm p)) (high_to kind b snorm p i)
  unfolding high_to
  high_better zero = inl refl
  high_better (suc i) = better_trans (held_pair kind b (quantized_pair snorm p)) (high_to kind b snorm p i) _ (high_better i) (better_better kind b (high_to kind b snorm p i) _ _)

  high_honest : (i : ℕ) → Honest kind b (high_to kind b snorm p i)
  unfolding high_to
  high_honest zero = held_honest kind b _ _
  high_honest (suc i) = better_honest kind b (high_to kind b snorm p i) _ _ (high_honest i)

  abbrev error_of : Pair → Float
  error_of q = palette_error kind b q.0 q.1

  -- what is held honestly, and is plain rounding or strictly better, has no larger error
  never_larger : (h : Held) → Honest kind b h → Better (held_pair kind b (quantized_pair snorm p)) h → lt (error_of (quantized_pair snorm p)) (error_of (pair_of h)) ≡ false
  unfolding held
  never_larger h s (inl e) = rw e (lt_irrefl _)
  never_larger h s (inr l) = rw (← s) (lt_asym h.error (error_of (quantized_pair snorm p)) l)

  pub medium_no_larger : lt (error_of (quantized_pair snorm p)) (error_of (quantizing MediumQuality kind b snorm p)) ≡ false
  unfolding quantizing medium
  medium_no_larger =
      never_larger (better_pair kind b (held_pair kind b (quantized_pair snorm p)) (quantized_pair snorm (other_pair p (quantized_pair snorm p))))
      (better_honest kind b (held_pair kind b (quantized_pair snorm p)) _ _ (held_honest kind b _ _)) (better_better kind b (held_pair kind b (quantized_pair snorm p)) _ _)

  pub high_no_larger : lt (error_of (quantized_pair snorm p)) (error_of (quantizing HighQuality kind b snorm p)) ≡ false
  unfolding quantizing
  high_no_larger = never_larger (high_to kind b snorm p 3) (high_honest 3) (high_better 3)
