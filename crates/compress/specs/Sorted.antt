-- The sixteen samples in order, as places: said by counting, so that no way of sorting is part of the promise. That this is the sorted
-- sixteen is shown in proofs/SortedSixteen.antt: `placed_ordered`, `placed_count`, `placed_is_sample`.
use Rattle.std.specs.Prelude.{List, cond, ℕ, zero, suc, ◌+◌, ◌-◌, ltb, Float}
use Rattle.std.specs.Float.Ieee.{le}
use Rattle.floats.specs.Arithmetic.{f1}
use Rattle.floats.specs.Helpers.{min_of}
use Rattle.block.specs.Samples.{pixel_at}

-- how many of the first i samples are not above x
unfoldable pub count_to : List Float → Float → ℕ → ℕ
count_to b x zero = 0
count_to b x (suc i) = count_to b x i + cond (le (pixel_at b i) x) 1 0

abbrev pub not_above : List Float → Float → ℕ
not_above b x = count_to b x 16

-- of the first i samples, the smallest that has more than k samples not above it
unfoldable pub placed_to : List Float → ℕ → ℕ → Float
placed_to b k zero = f1
placed_to b k (suc i) = cond (ltb k (not_above b (pixel_at b i))) (min_of (placed_to b k i) (pixel_at b i)) (placed_to b k i)

-- the sample of place k, of places 0 to 15 from the smallest sample to the largest
abbrev pub placed : List Float → ℕ → Float
placed b k = placed_to b k 16

-- the last place whose sample is not above x, or 0 (`place_of_last`, `place_of_equal`)
abbrev pub place_of : List Float → Float → ℕ
place_of b x = not_above b x - 1
