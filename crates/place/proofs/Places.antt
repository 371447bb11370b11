-- What a good size says in plain numbers, and where blocks stand in it: within the bytes, and apart from one another.
use mathlib.Core.Path.{◌≡◌, refl, sym, ap}
use mathlib.Core.Bool.{Bool, true, false, ◌||◌}
use Prim.Native.Nat.{ℕ, ◌+◌, ◌*◌, ◌%◌, ◌<◌, ◌≤◌}
use native.Mathlib.Nat.{add-zero, zero-add, zero-mul, add-mul, mul-le-mul, mul-le-mul_right, mul_comm, mul_assoc, mul-suc, mul-mul-mul_comm, suc-mul, div-eq_of_eq-mul_right, lt_of_mul-lt-mul_left}
use native.Mathlib.Numerals.{add-one}
use native.Mathlib.Omega.{arith}
use lib.Dec.{leb, lit<}
use borrow.Author.Tests.{ltb-false, leb-false, eqb-false, eqb-true, not-false}
use Rattle.place.specs.Place.{longest_side, bad_side, bad_size, along, bc5_size, encoded_length, no_block, block_at}

pub neither : (a b : Bool) → a || b ≡ false → (a ≡ false) × (b ≡ false)
neither true b h = absurd (let z : ◌≡◌ {A = ℕ} 0 1 = cc in omega arith)
neither false b h = (refl, h)

-- one more of n still lies within
pub fits : (k many n : ℕ) → k < many → k * n + n ≤ many * n
fits k many n h = omega (arith, mul-le-mul_right n h, suc-mul k n)

-- a block of the first row
pub first_row : (size width column : ℕ) → block_at size width column 0 ≡ column * size
first_row size width column = rw (zero-mul (along width), zero-add column) (mul_comm size column)

-- a block of any row: so far into the row's stretch
pub block_place : (size width column row : ℕ) → block_at size width column row ≡ row * (along width * size) + column * size
block_place size width column row = rw (mul_comm size (row * along width + column), add-mul (row * along width) column size, mul_assoc row (along width) size)

pub record Side (n : ℕ) : Type 0 where
  pub some : 0 < n
  pub short : n ≤ longest_side
  pub fours : 4 * along n ≡ n

side_good : (n : ℕ) → bad_side n ≡ false → Side n
unfolding bad_side
side_good n h =
    let a = neither _ _ h in
    let b = neither _ _ a.0 in
    let z : n ≡ 0 → ⊥ = eqb-false n 0 b.0 in
    let f : n % 4 ≡ 0 = eqb-true (n % 4) 0 (not-false _ a.1) in
    record { some = omega arith; short = ltb-false longest_side n b.1; fours = omega arith }

pub good_sides : (width height : ℕ) → bad_size width height ≡ false → (bad_side width ≡ false) × (bad_side height ≡ false)
unfolding bad_size
good_sides width height good = neither _ _ good

pub record RowRoom (size width height row : ℕ) : Type 0 where
  pub start : block_at size width 0 row ≡ row * (along width * size)
  pub next : block_at size width 0 (row + 1) ≡ row * (along width * size) + along width * size
  pub within : row * (along width * size) + along width * size ≤ encoded_length size width height
  pub samples : 4 * (row + 1) * width ≤ width * height
  pub blocks : row * along width + along width ≤ longest_side * longest_side

module _ (width height : ℕ) (good : bad_size width height ≡ false) where
  pub size_good : Side width × Side height
  size_good = let g = good_sides width height good in (side_good width g.0, side_good height g.1)

  -- so that the area fits a word
  pub size_small : width * height ≤ longest_side * longest_side
  size_small = mul-le-mul size_good.0.short size_good.1.short

  -- and so do the bytes of all blocks
  pub bytes_small : {size : ℕ} → size ≤ bc5_size → (width * height * size ≤ 16 * longest_side * longest_side) × (encoded_length size width height ≤ longest_side * longest_side)
  bytes_small most = let bytes = mul-le-mul size_small most in (omega arith, omega arith)

  -- the bytes of all blocks, row by row
  pub rows_length : (size : ℕ) → along height * (along width * size) ≡ encoded_length size width height
  rows_length size =
      let area : width * height ≡ 16 * (along height * along width) = rw (size_good.0.fours, size_good.1.fours, mul_comm (along width) (along height)) at (mul-mul-mul_comm 4 (along width) 4 (along height)) in
      sym (div-eq_of_eq-mul_right (lit< tt) (rw (area, mul_assoc 16 (along height * along width) size, mul_assoc (along height) (along width) size)))

  pub block_within : (size column row : ℕ) → column < along width → row < along height → block_at size width column row + size ≤ encoded_length size width height
  block_within size column row h k =
      let n = row * along width + column in
      let below : n < along height * along width = omega (arith, fits row (along height) (along width) k) in
      rw (← rows_length size, ← mul_assoc (along height) (along width) size, mul_comm size n) (fits n (along height * along width) size below)

  -- the stretch of a row of blocks, from its first block to the next row's, and its four rows of samples
  pub row_room : (size row : ℕ) → row < along height → RowRoom size width height row
  row_room size row h =
      let fours : 4 * (row + 1) ≤ height = omega (arith, size_good.1.fours) in
      let rows = mul-le-mul_right width fours in
      let most = fits row (along height) (along width * size) h in
      record {
        start = rw (mul_comm size (row * along width + 0), add-zero (row * along width), mul_assoc row (along width) size);
        next = rw (add-one row, suc-mul row (along width), add-zero (row * along width + along width), mul_comm size (row * along width + along width), add-mul (row * along width) (along width) size, mul_assoc row (along width) size);
        within = rw (rows_length size) at most;
        samples = omega (arith, rows, mul_comm width height);
        blocks = omega (arith, fits row (along height) (along width) h, mul-le-mul {n₁ = along height} {m₁ = along width} {n₂ = longest_side} {m₂ = longest_side} (omega (arith, size_good.1.short)) (omega (arith, size_good.0.short)));
      }

-- Blocks that share a byte are one block.
pub block_apart : (size width column row column' row' : ℕ) → column < along width → column' < along width
    → block_at size width column row < block_at size width column' row' + size → block_at size width column' row' < block_at size width column row + size
    → (column ≡ column') × (row ≡ row')
block_apart size width column row column' row' h h' p q =
    let n = row * along width + column in
    let n' = row' * along width + column' in
    let not_after : n < n' + 1 = lt_of_mul-lt-mul_left size (omega (arith, p, mul-suc size n')) in
    let not_before : n' < n + 1 = lt_of_mul-lt-mul_left size (omega (arith, q, mul-suc size n)) in
    let above : row < row' → ⊥ = λ l. omega (arith, fits row row' (along width) l) in
    let below : row' < row → ⊥ = λ l. omega (arith, fits row' row (along width) l) in
    let same : row ≡ row' = omega arith in
    (omega (arith, ap (λ (r : ℕ). r * along width) same), same)

-- a block that is asked for and stands in the tile
pub block_there : (width height column row : ℕ) → no_block width height column row ≡ false → (column < along width) × (row < along height)
block_there width height column row e =
    let both = neither (leb (along width) column) (leb (along height) row) e in
    (leb-false (along width) column both.0, leb-false (along height) row both.1)
