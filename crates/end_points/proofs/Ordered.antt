-- The two levels of any two floats, NaN included, differ, the low one first, and are in the format.
use mathlib.Core.Path.{◌≡◌, refl, sym, ◌∙◌}
use mathlib.Core.Logic.{⊎_elim}
use Prim.Native.Nat.{ℕ, zero, suc, ◌+◌, ◌-◌, ◌≤◌, ◌<◌}
use native.Mathlib.Nat.{eq-or-lt_of_le}
use native.Mathlib.Omega.{arith}
use mathlib.Core.Bool.{Bool, true, false, cond}
use lib.Dec.{eqb, lit<}
use lib.Ieee.{Float, nan, le}
use borrow.Author.Tests.{eqb-true, eqb-false, eq-eqb, ne_eqb}
use Rattle.floats.specs.Helpers.{min_of, max_of}
use Rattle.floats.proofs.Order.{le_right}
use Rattle.floats.proofs.Ranges.{clamp_nan, clamp_mono, min_max_lem}
use Rattle.values.specs.Values.{steps}
use Rattle.end_points.specs.declared.levels.Levels.{Levels}
use Rattle.end_points.specs.Levels.{nearest_level, rounded_down, down_from_top, rounded_up, levels, apart, levels_between, in_format, levels_of}
use Rattle.end_points.proofs.Rounded.{Fitting, fitting, nearest_mono, down_mono, at_nan, room}

-- ---- levels: different, in order, in the format
pub record Distinct (snorm : Bool) (l : Levels) : Type 0 where
  pub order : l.low < l.high
  pub top : l.high ≤ steps snorm

pub low_le : (snorm : Bool) (l : Levels) → Distinct snorm l → l.low ≤ steps snorm
low_le snorm l d = omega (arith, d.order, d.top)

one_step : (snorm : Bool) → 1 ≤ steps snorm
one_step true = omega arith
one_step false = omega arith

apart_distinct : (snorm : Bool) (low high : ℕ) → low ≤ high → high ≤ steps snorm → Distinct snorm (apart low high)
unfolding apart
apart_distinct snorm low high h k = go (eqb low high) refl (eqb low 0) refl
  where
    go : (s : Bool) → eqb low high ≡ s → (t : Bool) → eqb low 0 ≡ t → Distinct snorm (cond s (cond t (levels low 1) (levels (low - 1) high)) (levels low high))
    go true e true z = record { order = omega (arith, eqb-true low 0 z); top = one_step snorm }
    go true e false z = record { order = less low high (eqb-true low high e) (eqb-false low 0 z); top = k }
      where
        less : (low high : ℕ) → low ≡ high → (low ≡ 0 → ⊥) → low - 1 < high
        less zero high e n = absurd (n refl)
        less (suc low) high e n = omega arith
    go false e t z = record { order = ⊎_elim (λ q. absurd (eqb-false low high e q)) (λ q. q) (eq-or-lt_of_le h); top = k }

-- the two cases, with the nearest levels under names of the code's
pub between_same : (snorm : Bool) (a b : Float) (x y : ℕ) → x ≡ nearest_level a snorm → y ≡ nearest_level b snorm → x ≡ y → levels_between a b snorm ≡ apart (rounded_down a snorm) (rounded_up b snorm)
unfolding levels_between
between_same snorm a b x y p q h = simp (eq-eqb (nearest_level a snorm) (nearest_level b snorm) (sym p ∙ h ∙ q))

pub between_other : (snorm : Bool) (a b : Float) (x y : ℕ) → x ≡ nearest_level a snorm → y ≡ nearest_level b snorm → (x ≡ y → ⊥) → levels_between a b snorm ≡ levels x y
unfolding levels_between
between_other snorm a b x y p q h = simp (ne_eqb (nearest_level a snorm) (nearest_level b snorm) (λ e. h (p ∙ e ∙ sym q))) (rw (p, q) refl)

between_distinct : (snorm : Bool) (a b : Float) → le a b ≡ true → Fitting snorm b → Distinct snorm (levels_between a b snorm)
unfolding levels_between
between_distinct snorm a b h fit = go (eqb (nearest_level a snorm) (nearest_level b snorm)) refl
  where
    outwards : rounded_down a snorm ≤ rounded_up b snorm
    outwards =
        let m : rounded_down a snorm ≤ rounded_down b snorm = down_mono snorm a b h in
        let r : rounded_down b snorm + down_from_top snorm b ≤ steps snorm = room snorm b (le_right a b h) fit.down fit.top in
        omega arith

    go : (s : Bool) → eqb (nearest_level a snorm) (nearest_level b snorm) ≡ s
        → Distinct snorm (cond s (apart (rounded_down a snorm) (rounded_up b snorm)) (levels (nearest_level a snorm) (nearest_level b snorm)))
    go true e = apart_distinct snorm (rounded_down a snorm) (rounded_up b snorm) outwards (omega arith)
    go false e = record {
      order = ⊎_elim (λ q. absurd (eqb-false (nearest_level a snorm) (nearest_level b snorm) e q)) (λ q. q) (eq-or-lt_of_le (nearest_mono snorm a b h));
      top = fit.near;
    }

nan_distinct : (snorm : Bool) → Distinct snorm (levels_between nan nan snorm)
unfolding levels_between apart
nan_distinct true = rw ((at_nan true).0, (at_nan true).1, (at_nan true).2) (record { order = lit< tt; top = omega arith })
nan_distinct false = rw ((at_nan false).0, (at_nan false).1, (at_nan false).2) (record { order = lit< tt; top = omega arith })

format_nan : (snorm : Bool) → in_format nan snorm ≡ nan
format_nan true = clamp_nan
format_nan false = refl

format_mono : (snorm : Bool) (x y : Float) → le x y ≡ true → le (in_format x snorm) (in_format y snorm) ≡ true
format_mono true x y h = clamp_mono x y h
format_mono false x y h = h

pub levels_distinct : (snorm : Bool) (e0 e1 : Float) → Distinct snorm (levels_of e0 e1 snorm)
unfolding levels_of
levels_distinct snorm e0 e1 = ⊎_elim nans numbers (min_max_lem e0 e1)
  where
    nans : (min_of e0 e1 ≡ nan) × (max_of e0 e1 ≡ nan) → Distinct snorm (levels_between (in_format (min_of e0 e1) snorm) (in_format (max_of e0 e1) snorm) snorm)
    nans n = rw (n.0, n.1, format_nan snorm) (nan_distinct snorm)

    numbers : le (min_of e0 e1) (max_of e0 e1) ≡ true → Distinct snorm (levels_between (in_format (min_of e0 e1) snorm) (in_format (max_of e0 e1) snorm) snorm)
    numbers h = between_distinct snorm _ _ (format_mono snorm (min_of e0 e1) (max_of e0 e1) h) (fitting snorm (max_of e0 e1))
