-- Every pair of the search: one pair is two candidates, what each pair keeps is kept by the loops, of one search or between two, and what one brings
-- about holds in the end.
use mathlib.Core.Path.{◌≡◌, refl}
use mathlib.Core.Logic.{⊎_elim, dite}
use mathlib.Core.Bool.{Bool, true, false, cond}
use mathlib.Core.List.{List}
use Prim.Native.Nat.{ℕ, zero, suc, ◌+◌, ◌≤◌, ◌<◌}
use native.Mathlib.Decide.{dec_lt}
use native.Mathlib.Omega.{arith}
use borrow.Author.Tests.{ltb-true, ltb-false}
use lib.Dec.{ltb}
use lib.Ieee.{Float, lt}
use Rattle.floats.proofs.Tests.{clash, either}
use Rattle.floats.proofs.Order.{lt_irrefl, lt_trans}
use Rattle.end_points.specs.EndPoints.{of_bytes, exchanged}
use Rattle.palette.specs.declared.Kind.{Kind}
use Rattle.palette.specs.declared.Kind.TheVariants.{Six, Four}
use Rattle.coding.specs.declared.Coded.{Coded}
use Rattle.coding.specs.Coding.{smaller}
use Rattle.search.specs.Search.{mode_tried, pair_tried, maxes_tried, first_max, mins_tried}
use Rattle.search.specs.Covered.{pair_error, pair_bytes}

-- ---- where max starts
pub first_le : (least min max : ℕ) → least ≤ max → min < max → first_max least min ≤ max
first_le least min max h k = go (ltb least (min + 1))
  where
    go : (t : Bool) → cond t (min + 1) least ≤ max
    go true = omega arith
    go false = h

pub first_from : (least min max : ℕ) → first_max least min ≤ max → (least ≤ max) × (min < max)
first_from least min max = go (ltb least (min + 1)) refl
  where
    go : (t : Bool) → ltb least (min + 1) ≡ t → cond t (min + 1) least ≤ max → (least ≤ max) × (min < max)
    go true e h = let l : least < min + 1 = ltb-true least (min + 1) e in (omega arith, omega arith)
    go false e h = let l : min + 1 ≤ least = ltb-false least (min + 1) e in (h, omega arith)

-- ---- x is not below what is held
abbrev pub NotBelow : Float → Coded → Type 0
NotBelow x best = lt x best.error ≡ false

pub kept_below : (x : Float) (best new : Coded) → NotBelow x best → NotBelow x (smaller best new)
kept_below x best new h = go (lt new.error best.error) refl
  where
    go : (t : Bool) → lt new.error best.error ≡ t → NotBelow x (cond t new best)
    go true e = ⊎_elim (λ k. clash (lt_trans x new.error best.error k e) h) (λ k. k) (either (lt x new.error))
    go false e = h

pub kept_own : (best new : Coded) → NotBelow new.error (smaller best new)
kept_own best new = go (lt new.error best.error) refl
  where
    go : (t : Bool) → lt new.error best.error ≡ t → NotBelow new.error (cond t new best)
    go true e = lt_irrefl new.error
    go false e = e

module _ (b : List Float) where
  abbrev pub candidate : Kind → ℕ → ℕ → Coded
  candidate kind min max = record { bytes = pair_bytes kind b min max; error = pair_error kind b min max }

  pub pair_is : (best : Coded) (min max : ℕ) → pair_tried b best min max ≡ smaller (smaller best (candidate Six min max)) (candidate Four min max)
  unfolding pair_tried mode_tried of_bytes exchanged
  pair_is best min max = refl

  -- ---- over all pairs: what each pair keeps is kept,
  pub maxes_keep : (P : Coded → Type 0) (min first n : ℕ) → ((h : Coded) (max : ℕ) → first ≤ max → max < first + n → P h → P (pair_tried b h min max))
      → (best : Coded) → P best → P (maxes_tried b best min first n)
  unfolding maxes_tried
  maxes_keep P min first zero keep best p = p
  maxes_keep P min first (suc n) keep best p =
      keep _ (first + n) (omega arith) (omega arith) (maxes_keep P min first n (λ h max l m. keep h max l (omega arith)) best p)

  pub mins_keep : (P : Coded → Type 0) (least n : ℕ)
      → ((h : Coded) (min max : ℕ) → min < n → first_max least min ≤ max → max ≤ 255 → P h → P (pair_tried b h min max))
      → (best : Coded) → P best → P (mins_tried b least best n)
  unfolding mins_tried
  mins_keep P least zero keep best p = p
  mins_keep P least (suc n) keep best p =
      maxes_keep P n (first_max least n) _ (λ h max l m. keep h n max (omega arith) l (omega arith)) _
      (mins_keep P least n (λ h min max l. keep h min max (omega arith)) best p)

  -- and what one pair brings about, the others keeping it, holds in the end
  module _ (P : Coded → Type 0) (keep : (h : Coded) (min max : ℕ) → P h → P (pair_tried b h min max))
      (min max : ℕ) (own : (h : Coded) → P (pair_tried b h min max)) where
    maxes_reach : (first n : ℕ) (best : Coded) → first ≤ max → max < first + n → P (maxes_tried b best min first n)
    unfolding maxes_tried
    maxes_reach first zero best l m = absurd (omega arith)
    maxes_reach first (suc n) best l m =
        dite (dec_lt max (first + n)) (λ k. keep _ min (first + n) (maxes_reach first n best l k))
        (λ k. let e : first + n ≡ max = omega arith in rw e (own (maxes_tried b best min first n)))

    pub mins_reach : (best : Coded) (least n : ℕ) → min < n → first_max least min ≤ max → max ≤ 255 → P (mins_tried b least best n)
    unfolding mins_tried
    mins_reach best least zero h l m = absurd (omega arith)
    mins_reach best least (suc n) h l m =
        dite (dec_lt min n) (λ k. maxes_keep P n _ _ (λ g max i j. keep g n max) _ (mins_reach best least n k l m))
        (λ k. let e : n ≡ min = omega arith in rw e (maxes_reach (first_max least min) _ _ l (omega arith)))

  -- so no error of a pair that was tried is below what is held
  pub mins_below : (kind : Kind) (min max : ℕ) (best : Coded) (least n : ℕ) → min < n → first_max least min ≤ max → max ≤ 255
      → NotBelow (pair_error kind b min max) (mins_tried b least best n)
  mins_below kind min max = mins_reach (NotBelow (pair_error kind b min max)) stays min max (own kind)
    where
      stays : (h : Coded) (i j : ℕ) → NotBelow (pair_error kind b min max) h → NotBelow (pair_error kind b min max) (pair_tried b h i j)
      stays h i j p = rw (pair_is h i j) (kept_below _ _ (candidate Four i j) (kept_below _ h (candidate Six i j) p))

      own : (kind : Kind) (h : Coded) → NotBelow (pair_error kind b min max) (pair_tried b h min max)
      own Six h = rw (pair_is h min max) (kept_below _ _ (candidate Four min max) (kept_own h (candidate Six min max)))
      own Four h = rw (pair_is h min max) (kept_own _ (candidate Four min max))

  -- ---- two searches side by side: what each pair keeps between them is kept
  module _ (R : Coded → Coded → Type 0) (keep : (g h : Coded) (min max : ℕ) → R g h → R (pair_tried b g min max) (pair_tried b h min max)) where
    maxes_both : (g h : Coded) (min first n : ℕ) → R g h → R (maxes_tried b g min first n) (maxes_tried b h min first n)
    unfolding maxes_tried
    maxes_both g h min first zero r = r
    maxes_both g h min first (suc n) r = keep _ _ min (first + n) (maxes_both g h min first n r)

    pub mins_both : (g h : Coded) (least n : ℕ) → R g h → R (mins_tried b least g n) (mins_tried b least h n)
    unfolding mins_tried
    mins_both g h least zero r = r
    mins_both g h least (suc n) r = maxes_both _ _ n (first_max least n) _ (mins_both g h least n r)
