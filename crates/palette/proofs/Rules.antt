-- What holds of the answer of either palette.
use mathlib.Core.Path.{◌≡◌, refl, sym, ap, ◌∙◌}
use mathlib.Core.Bool.{Bool, true, false, cond}
use mathlib.Core.List.{List}
use Prim.Native.Nat.{ℕ, zero, suc, ◌*◌, ◌-◌, ◌<◌}
use native.Mathlib.Omega.{arith}
use lib.Dec.{T, ltb}
use lib.Ieee.{Float, nan, inf, fin, binary32, up, down, round, neg, add, sub, lt, le, fits, of_bits}
use lib.Ieee.Fits.{down_pos}
use Rattle.std.proofs.Common.{ltb-true}
use Rattle.floats.specs.Arithmetic.{◌⊖◌, squared, f0, half, f1}
use Rattle.floats.specs.Helpers.{abs_of}
use Rattle.floats.proofs.ExactResult.{gap, sign_of, sum_is, sub_at}
use Rattle.floats.proofs.Exactly.{round_fixed}
use Rattle.floats.proofs.Squares.{square_abs}
use Rattle.floats.proofs.Distances.{abs_round}
use Rattle.floats.proofs.Differences.{abs_sub}
use Rattle.palette.specs.declared.Kind.{Kind}
use Rattle.palette.specs.declared.Kind.TheVariants.{Six, Four}
use Rattle.palette.specs.declared.inter4.Nearest.{Nearest}
use Rattle.palette.specs.Palettes.{entry, colors}
use Rattle.palette.specs.Closest.{default_of, nearer_of, nearest_to, closest4, closest_of}
use Rattle.palette.proofs.ClosestLaws.{closest6_lt, closest4_lt, closest6_squared}

pub closest_lt : (kind : Kind) (c0 c1 x : Float) → (closest_of kind c0 c1 x).index < 8
closest_lt Six c0 c1 = closest6_lt _
closest_lt Four c0 c1 = closest4_lt _

-- ---- the square of its error is that of the difference from its value: first the difference from 0
kept : (s : Bool) (a : ℕ) → gap s a true 0 ≡ a
kept true a = omega arith
kept false a = go (ltb a 0) refl
  where
    go : (t : Bool) → ltb a 0 ≡ t → cond t (0 - a) (a - 0) ≡ a
    go true e = absurd (omega (arith, ltb-true a 0 e))
    go false e = omega arith

from_0 : (x : Float) → T (fits binary32 x) → abs_of (x ⊖ f0) ≡ abs_of x
from_0 nan p = unfold add sub neg of_bits in refl
from_0 (inf true) p = unfold add sub neg of_bits in refl
from_0 (inf false) p = unfold add sub neg of_bits in refl
from_0 (fin s m e) p =
    ap abs_of (sub_at binary32 (fin s m e) f0 s false (m * up e) 0 (down e) (down_pos e) (refl, refl) (unfold of_bits in (refl, none (down e))) ∙ sum_is binary32 s (m * up e) true 0 (down e))
    ∙ abs_round (sign_of s (m * up e) true 0) (gap s (m * up e) true 0) (down e)
    ∙ ap (λ (n : ℕ). round binary32 false n (down e)) (kept s (m * up e)) ∙ round_fixed m e (unfold fits in p)
  where
    none : (d : ℕ) → 0 * 1 * d ≡ 0 * 1
    none d = omega arith

same_square : (x y : Float) → abs_of x ≡ abs_of y → squared x ≡ squared y
same_square x y e = sym (square_abs x) ∙ ap squared e ∙ square_abs y

-- the error of an answer among these colours, and the colour
module _ (c : List Float) (x : Float) where
  abbrev Told : Nearest → Type 0
  Told n = squared n.error ≡ squared (x ⊖ entry c n.index)

  default_told : T (fits binary32 x) → entry c 6 ≡ f0 → entry c 7 ≡ f1 → Told (default_of x)
  unfolding default_of
  default_told p zero_is one_is = go (le half x)
    where
      go : (t : Bool) → squared (cond t (f1 ⊖ x) x) ≡ squared (x ⊖ entry c (cond t 7 6))
      go true = rw one_is (same_square (f1 ⊖ x) (x ⊖ f1) (abs_sub f1 x))
      go false = rw zero_is (same_square x (x ⊖ f0) (sym (from_0 x p)))

  nearer_told : (n : Nearest) (k : ℕ) → Told n → Told (nearer_of n k (entry c k) x)
  unfolding nearer_of
  nearer_told n k h = go (lt (abs_of (x ⊖ entry c k)) n.error)
    where
      go : (t : Bool) → Told (cond t (record { index = k; error = abs_of (x ⊖ entry c k) }) n)
      go true = square_abs (x ⊖ entry c k)
      go false = h

  nearest_told : T (fits binary32 x) → entry c 6 ≡ f0 → entry c 7 ≡ f1 → (k : ℕ) → Told (nearest_to c x k)
  unfolding nearest_to
  nearest_told p zero_is one_is zero = default_told p zero_is one_is
  nearest_told p zero_is one_is (suc k) = nearer_told (nearest_to c x k) k (nearest_told p zero_is one_is k)

pub closest_squared : (kind : Kind) (c0 c1 x : Float) → T (fits binary32 x) → squared (closest_of kind c0 c1 x).error ≡ squared (x ⊖ (closest_of kind c0 c1 x).value)
unfolding closest4 colors
closest_squared Six c0 c1 x p = closest6_squared _ x
closest_squared Four c0 c1 x p = nearest_told (colors c0 c1) x p refl refl 6
