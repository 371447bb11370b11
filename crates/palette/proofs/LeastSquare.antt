-- What one sample adds to the palette error, by squares; and for a sample in 0..1 the distances from 0 and 1 as the Rust writes them.
use mathlib.Core.Path.{◌≡◌, ◌∙◌}
use mathlib.Core.Bool.{Bool, true, false, cond}
use mathlib.Core.List.{List}
use Prim.Native.Nat.{ℕ, zero, suc}
use lib.Ieee.{Float, lt}
use Rattle.floats.specs.Arithmetic.{◌⊖◌, squared}
use Rattle.floats.specs.Helpers.{lane_min}
use Rattle.floats.proofs.Squares.{Plain, abs_plain, square_abs, square_min}
use Rattle.palette.specs.Palettes.{entry}
use Rattle.palette.specs.PaletteError.{distance, least_to, nearer_square, least_square_to, miss}

min_plain : (x y : Float) → Plain x → Plain y → Plain (lane_min x y)
min_plain x y p q = go (lt x y)
  where
    go : (t : Bool) → Plain (cond t x y)
    go true = p
    go false = q

least_plain : (v : List Float) (p : Float) (k : ℕ) → Plain (least_to v p k)
unfolding least_to
least_plain v p zero = abs_plain (entry v 0 ⊖ p)
least_plain v p (suc k) = min_plain (least_to v p k) (distance v p (suc k)) (least_plain v p k) (abs_plain (entry v (suc k) ⊖ p))

least_square : (v : List Float) (p : Float) (k : ℕ) → squared (least_to v p k) ≡ least_square_to v p k
unfolding least_to least_square_to nearer_square
least_square v p zero = square_abs (entry v 0 ⊖ p)
least_square v p (suc k) =
    square_min (least_to v p k) (distance v p (suc k)) (least_plain v p k) (abs_plain (entry v (suc k) ⊖ p))
    ∙ rw (least_square v p k, square_abs (entry v (suc k) ⊖ p))

pub miss_is : (v : List Float) (p : Float) → miss v p ≡ least_square_to v p 7
unfolding miss
miss_is v p = least_square v p 7
