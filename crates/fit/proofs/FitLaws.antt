-- Where every blend is above -1, the ends that the lanes give are those of the fit.
use mathlib.Core.Path.{◌≡◌, refl, sym, ap, ap₂, ◌∙◌}
use mathlib.Core.List.{List}
use mathlib.Core.Bool.{Bool, true, false, ◌&&◌, false≢true}
use Prim.Native.Nat.{ℕ, ◌<◌}
use lib.Ieee.{Float, nan}
use Rattle.floats.specs.Helpers.{clamp_of}
use Rattle.floats.specs.declared.Pair.{Pair}
use Rattle.block.specs.Samples.{pixel_at, tabulate, per_pixel}
use Rattle.block.proofs.Fill.{length_tabulate, get_d_tabulate, tabulated}
use Rattle.block.proofs.Lanes.{each_of_four, all_lanes}
use Rattle.palette.specs.declared.inter6.Inter6Palette.{Inter6Palette}
use Rattle.palette.specs.Palettes.{inter6_palette}
use Rattle.palette.specs.Closest.{weights}
use Rattle.palette.proofs.ClosestLaws.{weight_above}
use Rattle.bcn_util.specs.declared.least_squares.WeightMatrix.{WeightMatrix}
use Rattle.bcn_util.specs.LeastSquares.{dot_in_pairs, complement, matrix_of, line, least_squares}
use Rattle.fit.specs.declared.Lanes.{Lanes}
use Rattle.fit.specs.Fit.{fitted}
use Rattle.fit.specs.Lanes.{weight_of, above_of, lane_of, lane_at, all_above, weighed, across, matrix, line_lanes, fit_lanes, ends}

-- ---- every blend is above -1
both_true : (s t : Bool) → (s && t) ≡ true → (s ≡ true) × (t ≡ true)
both_true true t e = (refl, e)
both_true false t e = absurd (false≢true e)

four_true : (s t u v : Bool) → (s && t && u && v) ≡ true → (s ≡ true) × (t ≡ true) × (u ≡ true) × (v ≡ true)
four_true s t u v h =
    let r = both_true (s && t && u) v h in
    let q = both_true (s && t) u r.0 in
    let p = both_true s t q.0 in
    (p.0, p.1, q.1, r.1)

module _ (p : Inter6Palette) (b : List Float) where
  each_above : all_above (weighed p b) ≡ true → (i : ℕ) → i < 16 → above_of p (pixel_at b i) ≡ true
  unfolding weighed lane_of tabulate
  each_above h = all_lanes _ (λ j l. four_true _ _ _ _ (each_of_four (λ j. (lane_at p b j).above ≡ true) (four_true _ _ _ _ h) j l))

  weights_above : all_above (weighed p b) ≡ true → per_pixel (λ i. weight_of p (pixel_at b i)) ≡ weights p b
  unfolding weights
  weights_above h = tabulated nan _ _ (length_tabulate (λ i. weight_of p (pixel_at b i)) 0 16) (λ i l. get_d_tabulate (λ i. weight_of p (pixel_at b i)) nan l ∙ weight_above p (pixel_at b i) (each_above h i l))

  -- ---- the sums are the same, lane by lane
  matrix_same : matrix (weighed p b) ≡ matrix_of (per_pixel (λ i. weight_of p (pixel_at b i)))
  unfolding matrix weighed lane_of matrix_of dot_in_pairs complement tabulate
  matrix_same = refl

  line_same : (e d : Float) → across (line_lanes b (weighed p b) e d) ≡ dot_in_pairs b (line e d (per_pixel (λ i. weight_of p (pixel_at b i))))
  unfolding weighed lane_of dot_in_pairs line tabulate
  line_same e d = refl

-- what the lanes of the weights w and the matrix m end in
abbrev ends_by : List Float → List Float → WeightMatrix → Pair
ends_by b w m = record { 0 = clamp_of (dot_in_pairs b (line m.e01 m.e00_01 w)); 1 = clamp_of (dot_in_pairs b (line m.e11 m.e10_11 w)) }

lanes_ends : (b : List Float) (p : Pair) → let q = inter6_palette p.0 p.1 in ends (fit_lanes b p) ≡ ends_by b (per_pixel (λ i. weight_of q (pixel_at b i))) (matrix (weighed q b))
unfolding fit_lanes
lanes_ends b p =
    let q = inter6_palette p.0 p.1 in
    let m = matrix (weighed q b) in
    ap₂ (λ (x y : Float). record { 0 = clamp_of x; 1 = clamp_of y }) (line_same q b m.e01 m.e00_01) (line_same q b m.e11 m.e10_11)

ends_fitted : (b : List Float) (p : Pair) → (fit_lanes b p).above ≡ true → ends (fit_lanes b p) ≡ fitted b p
unfolding fit_lanes weighed fitted least_squares
ends_fitted b p h =
    let q = inter6_palette p.0 p.1 in
    lanes_ends b p ∙ ap (ends_by b (per_pixel (λ i. weight_of q (pixel_at b i)))) (matrix_same q b) ∙ ap (λ (w : List Float). ends_by b w (matrix_of w)) (weights_above q b h)

pub lanes_fitted : (b : List Float) (p : Pair) (l : Lanes) → l ≡ fit_lanes b p → l.above ≡ true → ends l ≡ fitted b p
lanes_fitted b p l e h = ap ends e ∙ ends_fitted b p (sym (ap (λ (k : Lanes). k.above) e) ∙ h)
