-- Dither: one pixel of the loop for any rule, the indexes of a dithered block, and the sums of the table.
use mathlib.Core.Path.{◌≡◌, refl}
use mathlib.Core.Bool.{Bool, true, false, ◌&&◌}
use mathlib.Core.List.{List}
use Prim.Native.Nat.{ℕ, zero, suc, ◌+◌, ◌*◌, ◌%◌, ◌<◌}
use native.Mathlib.Numerals.{add-one}
use native.Mathlib.Omega.{arith}
use lib.ListN.{get_or}
use lib.Dec.{T, ltb}
use lib.Ieee.{Float, nan, binary32, of_bits, of_int, div}
use lib.Ieee.Fits.{add-fits}
use Rattle.floats.specs.Arithmetic.{◌⊕◌, ◌⊖◌, ◌⊗◌, ◌⊘◌, squared, whole}
use Rattle.floats.proofs.Table.{all, at, same, same→eq}
use Rattle.block.specs.Samples.{pixel_at}
use Rattle.index_list.specs.Indexes.{index_at, set_at, filled_to}
use Rattle.index_list.proofs.Laws.{filled_unset}
use Rattle.palette.specs.declared.Kind.{Kind}
use Rattle.palette.specs.declared.Closest.{Closest}
use Rattle.palette.specs.declared.Indexed.{Indexed}
use Rattle.palette.specs.Closest.{closest_of}
use Rattle.palette.proofs.Rules.{closest_lt, closest_squared}
use Rattle.bcn_util.specs.Diffusion.{sixteenths, weights, given, diffused}
use Rattle.bcn_util.specs.Dither.{dither_step, dither_to}

and_true : (p : Bool) → (p && true) ≡ p
and_true true = refl
and_true false = refl

and_false : (p : Bool) → (p && false) ≡ false
and_false true = refl
and_false false = refl

-- ---- one pixel above the last row, and one in it
module _ (m : List Float) (i : ℕ) (error : Float) where
  abbrev part : ℕ → ℕ → Float
  part row k = error ⊗ get_or weights (4 * row + k) nan

  pub diffused_above : ltb i 12 ≡ true
      → diffused m i error
      ≡ given (ltb (i % 4) 3)
      (given true
      (given (ltb 0 (i % 4))
      (given (ltb (i % 4) 3) m
      (i + 1) (part (i % 4) 0))
      (i + 3) (part (i % 4) 1))
      (i + 4) (part (i % 4) 2))
      (i + 5) (part (i % 4) 3)
  unfolding diffused
  diffused_above h = rw (h, and_true (ltb (i % 4) 3), and_true (ltb 0 (i % 4))) refl

  pub diffused_last : ltb i 12 ≡ false → diffused m i error ≡ given (ltb (i % 4) 3) m (i + 1) (part 4 0)
  unfolding diffused given
  diffused_last h = rw (h, and_false (ltb (i % 4) 3), and_false (ltb 0 (i % 4))) refl

-- ---- the indexes are set in order, so the next one is unset
abbrev pub index_given : (Float → Closest) → List Float → ℕ → ℕ
index_given rule b k = (rule (pixel_at b k ⊕ pixel_at (dither_to rule b k).map k)).index

pub indexes_filled : (rule : Float → Closest) (b : List Float) (n : ℕ) → (dither_to rule b n).done.indexes.«data» ≡ filled_to (index_given rule b) n
unfolding dither_to dither_step filled_to
indexes_filled rule b zero = refl
indexes_filled rule b (suc n) = rw (indexes_filled rule b n)

-- ---- what the loop holds after i pixels
pub record Reached (kind : Kind) (c0 c1 : Float) (b : List Float) (i : ℕ) (map : List Float) (done : Indexed) : Type 0 where
  pub map_is : map ≡ (dither_to (closest_of kind c0 c1) b i).map
  pub done_is : done ≡ (dither_to (closest_of kind c0 c1) b i).done

module _ {kind : Kind} {c0 c1 : Float} {b : List Float} {i : ℕ} {map : List Float} {done : Indexed} (r : Reached kind c0 c1 b i map done) where
  pub reached_unset : index_at done.indexes.«data» i ≡ 0
  reached_unset =
      rw (r.done_is, indexes_filled (closest_of kind c0 c1) b i)
      (filled_unset (index_given (closest_of kind c0 c1) b) i (λ k h. closest_lt kind c0 c1 _) i (omega arith))

  -- the error is taken with its sign
  pub reached_step : let pixel = pixel_at b i ⊕ pixel_at map i in
      let c = closest_of kind c0 c1 pixel in
      Reached kind c0 c1 b (i + 1) (diffused map i (pixel ⊖ c.value)) (record { indexes = record { «data» = set_at done.indexes.«data» i c.index }; error = done.error ⊕ squared (pixel ⊖ c.value) })
  unfolding dither_to dither_step
  reached_step =
      let x = pixel_at b i ⊕ pixel_at map i in
      rw (add-one, ← closest_squared kind c0 c1 x (add-fits binary32 (pixel_at b i) (pixel_at map i)), r.map_is, r.done_is) (record { map_is = refl; done_is = refl })

-- ---- the table
right : ℕ → Bool
right k = same (get_or weights k nan) (whole (get_or sixteenths k 0) ⊘ whole 16)

every_right : T (all right 20)
unfolding right weights of_bits of_int div
every_right = tt

pub weights_are : (k : ℕ) → k < 20 → get_or weights k nan ≡ whole (get_or sixteenths k 0) ⊘ whole 16
unfolding right
weights_are k h = same→eq _ _ (at right 20 every_right k h)

-- how much of an error is passed on, in sixteenths: nearly all, three quarters in the last column, half in the last row
abbrev pub row_sum : ℕ → ℕ
row_sum r = get_or sixteenths (4 * r) 0 + get_or sixteenths (4 * r + 1) 0 + get_or sixteenths (4 * r + 2) 0 + get_or sixteenths (4 * r + 3) 0

pub row_sums : (row_sum 0 ≡ 15) × (row_sum 1 ≡ 16) × (row_sum 2 ≡ 16) × (row_sum 3 ≡ 12) × (row_sum 4 ≡ 8)
row_sums = (refl, refl, refl, refl, refl)
