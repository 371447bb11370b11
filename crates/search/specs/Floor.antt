-- Floors of palette errors, by which the search passes pairs over. For many pairs at once: the values of a pair's palettes lie between its ends, but
-- for rounding, and of four values two are 0 and 1; so a sample beyond the ends is at least so far from all of them. For one pair: a part of its
-- errors. `min_floor_lem`, `max_floor_lem` and `pair_row` in proofs/ say that no error is below its floor.
use Rattle.std.specs.Prelude.{◌≡◌, List, true, false, cond, ◌||◌, ℕ, ◌<◌, length, get_or, Float, ◌+◌}
use Rattle.std.specs.Float.{nan, inf}
use Rattle.std.specs.Float.Ieee.{lt, ne}
use Rattle.floats.specs.Arithmetic.{◌⊕◌, ◌⊖◌, squared, bits, f0, f1}
use Rattle.floats.specs.Helpers.{lane_min}
use Rattle.values.specs.Values.{value_of}
use Rattle.block.specs.Samples.{pixel_at, tabulate, per_pixel}
use Rattle.block.specs.Orders.{sum_in_order}
use Rattle.palette.specs.declared.Kind.{Kind}
use Rattle.palette.specs.declared.Kind.TheVariants.{Six, Four}
use Rattle.palette.specs.Rows.{first_row_error}
use Rattle.search.specs.Covered.{pair_error}

-- 1 / 4,194,304: more than what rounding moves a value beyond the ends
abbrev pub margin : Float
margin = bits 0x3480_0000

-- how far p lies below low; or above high, as a negative number
unfoldable pub beyond : Float → Float → Float → Float
beyond low high p = cond (lt f0 (low ⊖ p)) (low ⊖ p) (lane_min (high ⊖ p) f0)

-- the square of that, or of the distance from 0 or 1 if it is smaller
unfoldable pub at_least : Float → Float → Float
at_least d p = lane_min (squared (f0 ⊖ p)) (lane_min (squared (f1 ⊖ p)) (squared d))

unfoldable pub floor_of : List Float → Float → Float → Float
floor_of b low high = sum_in_order (per_pixel (λ i. at_least (beyond low high (pixel_at b i)) (pixel_at b i)))

-- for all pairs with this min, and for all with this max
abbrev pub min_floor : List Float → ℕ → Float
min_floor b min = floor_of b (value_of min false ⊖ margin) (inf false)

abbrev pub max_floor : List Float → ℕ → Float
max_floor b max = floor_of b (inf true) (value_of max false ⊕ margin)

abbrev pub max_floors : List Float → List Float
max_floors b = tabulate (max_floor b) 0 256

-- for one pair, of its ends' floats: what the first row adds, in the mode where that is less; of a NaN a NaN
unfoldable pub row_floor : List Float → Float → Float → Float
row_floor b low high =
    let six = first_row_error Six b high low in
    let four = first_row_error Four b low high in
    cond (lt six four || ne six six) six four

-- a floor for each pair with this min, by its max
pub record Floors (b : List Float) (min : ℕ) (floors : List Float) : Type 0 where
  pub size : length floors ≡ 256
  pub each : (max : ℕ) → min < max → max < 256 → (kind : Kind) → lt (pair_error kind b min max) (get_or floors max nan) ≡ false

-- of n values of max, from `at` on, a floor for each pair with this min
pub record PartFloors (b : List Float) (min at n : ℕ) (floors : List Float) : Type 0 where
  pub size : length floors ≡ 32
  pub each : (i : ℕ) → i < n → min < at + i → (kind : Kind) → lt (pair_error kind b min (at + i)) (get_or floors i nan) ≡ false

-- of as many values of max as there are floors, from `at` on, a floor for each pair with this min
pub record FloorsFrom (b : List Float) (min at : ℕ) (floors : List Float) : Type 0 where
  pub each : (i : ℕ) → i < length floors → (kind : Kind) → lt (pair_error kind b min (at + i)) (get_or floors i nan) ≡ false
