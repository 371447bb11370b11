-- One fit of `fitted` worked out lane by lane, where every blend is above -1: `lanes_fitted` in proofs/ says that the ends are the same.
use Rattle.std.specs.Prelude.{List, Bool, false, ◌&&◌, ℕ, ◌+◌, get_or, Float}
use Rattle.std.specs.Float.{nan}
use Rattle.std.specs.Float.Ieee.{lt, neg}
use Rattle.floats.specs.Arithmetic.{◌⊕◌, ◌⊖◌, ◌⊗◌, squared, f1}
use Rattle.floats.specs.Helpers.{clamp_of}
use Rattle.floats.specs.declared.Pair.{Pair}
use Rattle.block.specs.Samples.{pixel_at, tabulate}
use Rattle.palette.specs.declared.inter6.Inter6Palette.{Inter6Palette}
use Rattle.palette.specs.Palettes.{inter6_palette}
use Rattle.palette.specs.Closest.{blend}
use Rattle.palette.specs.Rows.{cut_weight}
use Rattle.bcn_util.specs.declared.least_squares.WeightMatrix.{WeightMatrix}
use Rattle.bcn_util.specs.LeastSquares.{from_d, or_mean}
use Rattle.fit.specs.declared.Lane.{Lane}
use Rattle.fit.specs.declared.Lanes.{Lanes}

-- ---- of a sample
abbrev pub weight_of : Inter6Palette → Float → Float
weight_of p x = cut_weight (blend p x)

abbrev pub above_of : Inter6Palette → Float → Bool
above_of p x = lt (neg f1) (blend p x)

-- ---- of four samples down a lane, and of lane j
unfoldable pub lane_of : Inter6Palette → Float → Float → Float → Float → Lane
lane_of p x0 x1 x2 x3 = let rest : Float → Float = λ x. f1 ⊖ weight_of p x in record {
  w0 = weight_of p x0;
  w1 = weight_of p x1;
  w2 = weight_of p x2;
  w3 = weight_of p x3;
  ww = squared (weight_of p x0) ⊕ squared (weight_of p x1) ⊕ squared (weight_of p x2) ⊕ squared (weight_of p x3);
  wv = weight_of p x0 ⊗ rest x0 ⊕ weight_of p x1 ⊗ rest x1 ⊕ weight_of p x2 ⊗ rest x2 ⊕ weight_of p x3 ⊗ rest x3;
  vv = squared (rest x0) ⊕ squared (rest x1) ⊕ squared (rest x2) ⊕ squared (rest x3);
  above = above_of p x0 && above_of p x1 && above_of p x2 && above_of p x3;
}

abbrev pub lane_at : Inter6Palette → List Float → ℕ → Lane
lane_at p b j = lane_of p (pixel_at b j) (pixel_at b (j + 4)) (pixel_at b (j + 8)) (pixel_at b (j + 12))

unfoldable pub weighed : Inter6Palette → List Float → List Lane
weighed p b = tabulate (lane_at p b) 0 4

-- lane j of four
abbrev pub lane : List Lane → ℕ → Lane
lane g j = get_or g j (record { w0 = nan; w1 = nan; w2 = nan; w3 = nan; ww = nan; wv = nan; vv = nan; above = false })

abbrev pub all_above : List Lane → Bool
all_above g = (lane g 0).above && (lane g 1).above && (lane g 2).above && (lane g 3).above

-- ---- of the block: the lanes' sums as (x + y) + (z + w)
abbrev pub across : List Float → Float
across s = (pixel_at s 0 ⊕ pixel_at s 1) ⊕ (pixel_at s 2 ⊕ pixel_at s 3)

-- and of one part of them
abbrev pub across_lanes : (Lane → Float) → List Lane → Float
across_lanes part g = (part (lane g 0) ⊕ part (lane g 1)) ⊕ (part (lane g 2) ⊕ part (lane g 3))

unfoldable pub matrix : List Lane → WeightMatrix
matrix g = or_mean (from_d (across_lanes (λ l. l.ww) g) (across_lanes (λ l. l.wv) g) (across_lanes (λ l. l.vv) g))

abbrev pub line_lane : List Float → Lane → Float → Float → ℕ → Float
line_lane b l e d j =
    let at : Float → ℕ → Float = λ w i. pixel_at b i ⊗ (e ⊕ d ⊗ w) in
    at l.w0 j ⊕ at l.w1 (j + 4) ⊕ at l.w2 (j + 8) ⊕ at l.w3 (j + 12)

abbrev pub line_lanes : List Float → List Lane → Float → Float → List Float
line_lanes b g e d = tabulate (λ j. line_lane b (lane g j) e d j) 0 4

unfoldable pub fit_lanes : List Float → Pair → Lanes
fit_lanes b p =
    let g = weighed (inter6_palette p.0 p.1) b in
    let m = matrix g in
    record { first = line_lanes b g m.e01 m.e00_01; second = line_lanes b g m.e11 m.e10_11; above = all_above g }

abbrev pub ends : Lanes → Pair
ends l = record { 0 = clamp_of (across l.first); 1 = clamp_of (across l.second) }
