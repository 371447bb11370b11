-- The floors that the search passes pairs over by: no palette error of a pair is below the floor of its min or of its max, in either mode. So where
-- what is held is not above a floor, the pairs of that floor leave it as it is.
use mathlib.Core.Path.{◌≡◌, refl}
use mathlib.Core.Bool.{Bool, true, false, cond}
use mathlib.Core.List.{List}
use Prim.Native.Nat.{ℕ, zero, suc, ◌+◌, ◌≤◌, ◌<◌}
use native.Mathlib.Omega.{arith}
use lib.Ieee.{Float, inf, mul, lt, le, of_bits}
use Rattle.floats.specs.Arithmetic.{◌⊕◌, ◌⊖◌, squared, f0, f1}
use Rattle.floats.specs.Helpers.{lane_min}
use Rattle.floats.proofs.Tests.{clash}
use Rattle.floats.proofs.Order.{lt_le_trans, le_left, le_right}
use Rattle.floats.proofs.Scan.{lane_min_keeps, lane_min_passed}
use Rattle.floats.proofs.Monotone.{from_bottom, to_top}
use Rattle.floats.proofs.Squares.{Plain, squared_plain, plain_not_below}
use Rattle.floats.proofs.NotBelow.{beyond_low, beyond_high}
use Rattle.values.specs.Values.{value_of}
use Rattle.block.specs.Samples.{pixel_at}
use Rattle.end_points.specs.EndPoints.{of_bytes}
use Rattle.palette.specs.declared.Kind.{Kind}
use Rattle.palette.specs.declared.Kind.TheVariants.{Six, Four}
use Rattle.palette.specs.Palettes.{entry, values4, values_of}
use Rattle.palette.proofs.ErrorFloor.{error_floor}
use Rattle.coding.specs.declared.Coded.{Coded}
use Rattle.coding.specs.Coding.{smaller}
use Rattle.search.specs.Search.{pair_tried, maxes_tried}
use Rattle.search.specs.Covered.{pair_error}
use Rattle.search.specs.Floor.{margin, beyond, at_least, floor_of, min_floor, max_floor}
use Rattle.search.proofs.Between.{Between, six_values_lem, four_values}
use Rattle.search.proofs.EveryPair.{candidate, pair_is, maxes_keep}

-- ---- one sample
beyond_far : (low high v p : Float) → le low v ≡ true → le v high ≡ true → lt (squared (v ⊖ p)) (squared (beyond low high p)) ≡ false
unfolding beyond
beyond_far low high v p h k = go (lt f0 (low ⊖ p)) refl (lt (high ⊖ p) f0) refl
  where
    go : (s : Bool) → lt f0 (low ⊖ p) ≡ s → (t : Bool) → lt (high ⊖ p) f0 ≡ t → lt (squared (v ⊖ p)) (squared (cond s (low ⊖ p) (cond t (high ⊖ p) f0))) ≡ false
    go true e t g = beyond_low low v p h e
    go false e true g = beyond_high high v p k g
    go false e false g = unfold mul of_bits in plain_not_below (squared (v ⊖ p)) (squared_plain (v ⊖ p))

module _ (d p : Float) where
  from_0_lem : lt (squared (f0 ⊖ p)) (at_least d p) ≡ false
  unfolding at_least
  from_0_lem = lane_min_passed (squared (f0 ⊖ p)) _

  from_1_lem : lt (squared (f1 ⊖ p)) (at_least d p) ≡ false
  unfolding at_least
  from_1_lem = lane_min_keeps _ (squared (f0 ⊖ p)) _ (lane_min_passed (squared (f1 ⊖ p)) (squared d))

  from_value : (x : Float) → lt x (squared d) ≡ false → lt x (at_least d p) ≡ false
  unfolding at_least
  from_value x h = lane_min_keeps x (squared (f0 ⊖ p)) _ (lane_min_keeps x (squared (f1 ⊖ p)) (squared d) h)

  plain : Plain (at_least d p)
  unfolding at_least
  plain = pick _ _ (squared_plain (f0 ⊖ p)) (pick _ _ (squared_plain (f1 ⊖ p)) (squared_plain d))
    where
      pick : (x y : Float) → Plain x → Plain y → Plain (lane_min x y)
      pick x y X Y = go (lt x y)
        where
          go : (t : Bool) → Plain (cond t x y)
          go true = X
          go false = Y

-- ---- a pair, where all between its ends is in low..high
module _ (b : List Float) (min max : ℕ) (h : min < max) (l : max ≤ 255) where
  module _ (low high : Float) (from : (v : Float) → Between min max v → le low v ≡ true) (to : (v : Float) → Between min max v → le v high ≡ true) where
    far : (v p : Float) → Between min max v → lt (squared (v ⊖ p)) (at_least (beyond low high p) p) ≡ false
    far v p w = from_value (beyond low high p) p (squared (v ⊖ p)) (beyond_far low high v p (from v w) (to v w))

    each_four : (k : ℕ) (p : Float) → k < 8 → lt (squared (entry (values4 (value_of min false) (value_of max false)) k ⊖ p)) (at_least (beyond low high p) p) ≡ false
    each_four zero p i = unfold values4 in from_0_lem (beyond low high p) p
    each_four (suc zero) p i = unfold values4 in from_1_lem (beyond low high p) p
    each_four (suc (suc k)) p i = far _ p (four_values min max h l k (omega arith))

    pair_floor : (kind : Kind) → lt (pair_error kind b min max) (floor_of b low high) ≡ false
    unfolding floor_of of_bytes values_of
    pair_floor Six = error_floor Six b (value_of max false) (value_of min false) _ (λ i. plain _ _) (λ i k j m. far _ (pixel_at b i) (six_values_lem min max h l k m))
    pair_floor Four = error_floor Four b (value_of min false) (value_of max false) _ (λ i. plain _ _) (λ i k j m. each_four k (pixel_at b i) m)

  pub min_floor_lem : (kind : Kind) → lt (pair_error kind b min max) (min_floor b min) ≡ false
  min_floor_lem = pair_floor (value_of min false ⊖ margin) (inf false) (λ v w. w.from_min) (λ v w. to_top v (le_right _ v w.from_min))

  pub max_floor_lem : (kind : Kind) → lt (pair_error kind b min max) (max_floor b max) ≡ false
  max_floor_lem = pair_floor (inf true) (value_of max false ⊕ margin) (λ v w. from_bottom v (le_left v _ w.to_max)) (λ v w. w.to_max)

-- ---- passing over
module _ (b : List Float) where
  -- neither error is below the floor, so neither is below what is held
  pub pair_passed : (best : Coded) (floor : Float) (min max : ℕ) → le best.error floor ≡ true → ((kind : Kind) → lt (pair_error kind b min max) floor ≡ false)
      → pair_tried b best min max ≡ best
  pair_passed best floor min max h each = rw (pair_is b best min max, stays Six, stays Four)
    where
      stays : (kind : Kind) → smaller best (candidate b kind min max) ≡ best
      stays kind = go (lt (pair_error kind b min max) best.error) refl
        where
          go : (t : Bool) → lt (pair_error kind b min max) best.error ≡ t → cond t (candidate b kind min max) best ≡ best
          go true e = clash (lt_le_trans _ best.error floor e h) (each kind)
          go false e = refl

  pub maxes_passed : (best : Coded) (min first n : ℕ) → min < first → first + n ≤ 256 → le best.error (min_floor b min) ≡ true → maxes_tried b best min first n ≡ best
  maxes_passed best min first n h l k =
      maxes_keep b (λ g. g ≡ best) min first n
      (λ g max i j e. rw e (pair_passed best (min_floor b min) min max k (min_floor_lem b min max (omega arith) (omega arith)))) best refl
