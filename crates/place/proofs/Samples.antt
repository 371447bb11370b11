-- The sixteen samples of a block: they stand within the tile, and are the tile's where it has one block.
use mathlib.Core.Path.{◌≡◌, sym, ap}
use mathlib.Core.List.{List}
use mathlib.Core.Bool.{false}
use Prim.Native.Nat.{ℕ, ◌+◌, ◌*◌, ◌/◌, ◌<◌, ◌≤◌}
use native.Mathlib.Nat.{mul-le-mul_left, mul-le-mul_right, mul_comm}
use native.Mathlib.Omega.{arith}
use lib.ListN.{length}
use lib.Ieee.{Float, nan, is_nan}
use Rattle.block.specs.Samples.{pixel_at}
use Rattle.block.proofs.Fill.{tabulated, length_tabulate, get_d_tabulate}
use Rattle.place.specs.Place.{along}
use Rattle.place.specs.Place.{sample_index, block_of}
use Rattle.place.proofs.Places.{fits}

-- a sample of a block stands within its four rows of samples, and so does the count of rows
pub sample_within : (width column row i : ℕ) → column < along width → i < 16
    → (4 * row + 4 ≤ 4 * (row + 1) * width) × (sample_index width column row i < 4 * (row + 1) * width)
sample_within width column row i h l =
    let p : 1 ≤ width = omega arith in
    let q = mul-le-mul_left (4 * (row + 1)) p in
    (omega arith, omega (arith, fits (4 * row + i / 4) (4 * (row + 1)) width (omega arith)))

-- Sixteen samples are the one block of a tile of width 4.
pub block_of_whole : (s : List Float) → length s ≡ 16 → block_of s 4 0 0 ≡ s
unfolding block_of
block_of_whole s e =
    sym (tabulated nan (λ i. pixel_at s (sample_index 4 0 0 i)) s e (λ k h. ap (pixel_at s) (here k)))
  where
    here : (k : ℕ) → k ≡ sample_index 4 0 0 k
    here k = omega arith

-- Where no sample of the tile is NaN, none of a block is.
pub block_of_real : (s : List Float) (width height column row : ℕ) → length s ≡ width * height → column < along width → row < along height
    → ((i : ℕ) → i < length s → is_nan (pixel_at s i) ≡ false) → (i : ℕ) → i < 16 → is_nan (pixel_at (block_of s width column row) i) ≡ false
unfolding block_of
block_of_real s width height column row e h k real i l =
    let rows : 4 * (row + 1) ≤ height = omega arith in
    let within = (sample_within width column row i h l).1 in
    let inside : sample_index width column row i < length s = omega (arith, mul-le-mul_right width rows, mul_comm width height) in
    rw get_d_tabulate (real (sample_index width column row i) inside)

pub block_of_length : (s : List Float) (width column row : ℕ) → length (block_of s width column row) ≡ 16
unfolding block_of
block_of_length s width column row = length_tabulate (λ (i : ℕ). pixel_at s (sample_index width column row i)) 0 16
