-- Where the search starts makes no difference to what it holds in the end, if an error is below that start: until a pair is below it, a search that
-- started at infinity holds nothing below it either, and from that pair on the two hold the same.
use mathlib.Core.Path.{◌≡◌, refl, ap, subst}
use mathlib.Core.Logic.{◌⊎◌, inl, inr, ⊎_elim}
use mathlib.Core.Bool.{Bool, true, false, cond}
use mathlib.Core.List.{List}
use Prim.Native.Nat.{ℕ, ◌≤◌, ◌<◌}
use native.Mathlib.Omega.{arith}
use lib.Ieee.{Float, nan, inf, fin, lt, is_nan}
use Rattle.floats.proofs.Tests.{clash}
use Rattle.floats.proofs.Order.{lt_left, lt_cotrans}
use Rattle.palette.specs.declared.Kind.TheVariants.{Six, Four}
use Rattle.coding.specs.declared.Coded.{Coded}
use Rattle.coding.specs.Coding.{smaller}
use Rattle.search.specs.Search.{pair_tried, mins_tried}
use Rattle.search.specs.Covered.{pair_error}
use Rattle.search.proofs.EveryPair.{first_le, candidate, pair_is, mins_below, mins_both}

abbrev from : Float → Coded
from x = record { bytes = 0; error = x }

top : (x : Float) → lt (inf false) x ≡ false
unfolding lt
top nan = refl
top (inf true) = refl
top (inf false) = refl
top (fin s m e) = refl

-- what the search from x holds, and the one from infinity
abbrev Alike : Float → Coded → Coded → Type 0
Alike x g h = (g ≡ h) ⊎ ((g.error ≡ x) × (lt h.error x ≡ false) × (is_nan h.error ≡ false))

kept_alike : (x : Float) (g h new : Coded) → Alike x g h → Alike x (smaller g new) (smaller h new)
kept_alike x g h new (inl e) = inl (ap (λ (k : Coded). smaller k new) e)
kept_alike x g h new (inr (e, n, r)) = go (lt new.error g.error) refl (lt new.error h.error) refl
  where
    at : (t : Bool) → lt new.error g.error ≡ t → lt new.error x ≡ t
    at t = subst (λ (y : Float). lt new.error y ≡ t) e

    go : (t : Bool) → lt new.error g.error ≡ t → (u : Bool) → lt new.error h.error ≡ u → Alike x (cond t new g) (cond u new h)
    go true p true q = inl refl
    go true p false q = ⊎_elim (λ k. clash k q) (λ k. clash k n) (lt_cotrans new.error h.error x r (at true p))
    go false p true q = inr (e, at false p, lt_left new.error h.error q)
    go false p false q = inr (e, n, r)

module _ (b : List Float) where
  alike : (x : Float) (g h : Coded) (min max : ℕ) → Alike x g h → Alike x (pair_tried b g min max) (pair_tried b h min max)
  alike x g h min max a = rw (pair_is b g min max, pair_is b h min max) (kept_alike x _ _ (candidate b Four min max) (kept_alike x g h (candidate b Six min max) a))

  -- the pair is one that is tried
  pub started : (x : Float) (least limit : ℕ) → limit ≤ 255 → (x ≡ inf false) ⊎ ((least < limit) × (lt (pair_error Six b least limit) x ≡ true))
      → mins_tried b least (from x) limit ≡ mins_tried b least (from (inf false)) limit
  started x least limit m (inl e) = rw e
  started x least limit m (inr (l, below)) =
      ⊎_elim (λ e. e) (λ o. clash below (rw (← o.0) (mins_below b Six least limit (from x) least limit l (first_le least least limit (omega arith) l) m)))
      (mins_both b (Alike x) (alike x) (from x) (from (inf false)) least limit (inr (refl, top x, unfold is_nan in refl)))
