-- bc4.rs, `Block`: the samples as they enter, their smallest and largest, their mean.
use Rattle.std.specs.Prelude.{◌≡◌, List, true, cond, ℕ, ◌<◌, Float}
use Rattle.std.specs.Float.Ieee.{le}
use Rattle.floats.specs.Arithmetic.{◌⊖◌, ◌⊗◌, bits, f0, f1}
use Rattle.floats.specs.Helpers.{lane_min, lane_max, entry_clamp}
use Rattle.floats.specs.declared.Pair.{Pair}
use Rattle.block.specs.Samples.{pixel_at, per_pixel}
use Rattle.block.specs.Orders.{down_lane, down_from, element, sum_in_pairs}

-- Block::from_raw
unfoldable pub entered : List Float → List Float
entered s = per_pixel (λ i. entry_clamp (pixel_at s i))

-- every sample is in 0..1, as entry leaves them
pub record InUnit (b : List Float) : Type 0 where
  pub from_0_lem : (i : ℕ) → i < 16 → le f0 (pixel_at b i) ≡ true
  pub to_1 : (i : ℕ) → i < 16 → le (pixel_at b i) f1 ≡ true

unfoldable pub smallest : List Float → Float
smallest b = element lane_min (down_lane lane_min (pixel_at b))

unfoldable pub largest : List Float → Float
largest b = element lane_max (down_lane lane_max (pixel_at b))

-- Block::min_max
unfoldable pub min_max : List Float → Pair
min_max b = record { 0 = smallest b; 1 = largest b }

-- BC4_MIN_VALUE, 1 / (255 · 7): the smallest value but 0 that a block can hold
abbrev pub bc4_min_value : Float
bc4_min_value = bits 0x3a12_dc01

-- Block::min_max_with_threshold: of the values in [threshold, 1 - threshold]. A sample below it counts as 1 for the smallest, one above 1 - threshold
-- as 0 for the largest, and the scan starts from 1 and from 0.
unfoldable pub min_max_with_threshold : List Float → Float → Pair
min_max_with_threshold b threshold = record {
  0 = element lane_min (down_from lane_min f1 (λ i. cond (le threshold (pixel_at b i)) (pixel_at b i) f1));
  1 = element lane_max (down_from lane_max f0 (λ i. cond (le (pixel_at b i) (f1 ⊖ threshold)) (pixel_at b i) f0));
}

-- 1.0 / 16.0
abbrev pub sixteenth : Float
sixteenth = bits 0x3d80_0000

abbrev pub mean : List Float → Float
mean b = sum_in_pairs b ⊗ sixteenth

-- ---- the code's scan, of the smallest and the largest as a pair
abbrev pub spanned : Pair → Pair → Pair
spanned a b = record { 0 = lane_min a.0 b.0; 1 = lane_max a.1 b.1 }

abbrev pub alone : Float → Pair
alone x = record { 0 = x; 1 = x }

abbrev pub counted : Float → Float → Pair
counted threshold x = record { 0 = cond (le threshold x) x f1; 1 = cond (le x (f1 ⊖ threshold)) x f0 }
