-- Demand 3's rule on one resend: the held bytes stay, or fresh ones of strictly smaller block error take their place.
use mathlib.Core.Path.{◌≡◌, refl}
use mathlib.Core.Logic.{◌⊎◌, inl, inr}
use mathlib.Core.Bool.{Bool, true, false, cond}
use mathlib.Core.List.{List}
use Prim.Native.Nat.{ℕ}
use lib.Ieee.{Float, lt}
use Rattle.options.specs.declared.Options.{Options}
use Rattle.encode.specs.Encoder.{compressed}
use Rattle.decode.specs.BlockError.{block_error}
use Rattle.bc4.specs.declared.Kept.{Kept}
use Rattle.bc4.specs.Calls.{better_of}

abbrev pub Stays : ℕ → Kept → Type 0
Stays held h = (h.block ≡ held) × (h.fresh ≡ false)

abbrev pub Replaced : List Float → ℕ → Options → Kept → Type 0
Replaced s held o h = (h.block ≡ compressed s o) × (h.fresh ≡ true) × (lt (block_error s h.block o.snorm) (block_error s held o.snorm) ≡ true)

pub stays_or_replaced : (s : List Float) (held : ℕ) (o : Options) → Stays held (better_of s held o) ⊎ Replaced s held o (better_of s held o)
unfolding better_of
stays_or_replaced s held o = go (lt (block_error s (compressed s o) o.snorm) (block_error s held o.snorm)) refl
  where
    go : (t : Bool) → lt (block_error s (compressed s o) o.snorm) (block_error s held o.snorm) ≡ t
        → let h = cond {A = Kept} t (record { block = compressed s o; fresh = true }) (record { block = held; fresh = false }) in
        Stays held h ⊎ Replaced s held o h
    go true e = inr (refl, refl, e)
    go false e = inl (refl, refl)
