-- Floors of the palette error: for each sample a value that none of its eight squared distances is below, and these summed in the error's order; and
-- what the first row adds. They hold with a NaN anywhere.
use mathlib.Core.Path.{◌≡◌, refl, subst}
use mathlib.Core.Bool.{Bool, true, false, cond}
use mathlib.Core.List.{List}
use Prim.Native.Nat.{ℕ, zero, suc, ◌+◌, ◌*◌, ◌<◌}
use native.Mathlib.Nat.{mul-one}
use native.Mathlib.Omega.{arith}
use lib.Dec.{T}
use lib.Ieee.{Float, nan, inf, fin, binary32, up, down, sum, add, lt, fits, of_bits}
use lib.Ieee.Fits.{mul-fits}
use Rattle.floats.specs.Arithmetic.{◌⊕◌, ◌⊖◌, squared, f0}
use Rattle.floats.specs.Helpers.{lane_min}
use Rattle.floats.proofs.Tests.{clash}
use Rattle.floats.proofs.Order.{lt_irrefl}
use Rattle.floats.proofs.Exactly.{round_fixed}
use Rattle.floats.proofs.Squares.{Plain, squared_plain, plain_not_below, add_plain}
use Rattle.floats.proofs.NotBelow.{add_not_below}
use Rattle.block.specs.Samples.{pixel_at, tabulate, per_pixel}
use Rattle.block.specs.Orders.{sum_in_order}
use Rattle.palette.specs.declared.Kind.{Kind}
use Rattle.palette.specs.Palettes.{entry, values_of}
use Rattle.palette.specs.PaletteError.{least_to, nearer_square, least_square_to, miss, palette_error}
use Rattle.palette.specs.Rows.{first_row_sum, first_row_error}
use Rattle.palette.proofs.LeastSquare.{miss_is}

-- ---- one sample
picked : (a b m : Float) → lt a m ≡ false → lt b m ≡ false → lt (lane_min a b) m ≡ false
picked a b m p q = go (lt a b)
  where
    go : (t : Bool) → lt (cond t a b) m ≡ false
    go true = p
    go false = q

module _ (v : List Float) (p m : Float) (each : (k : ℕ) → k < 8 → lt (squared (entry v k ⊖ p)) m ≡ false) where
  least_floor : (k : ℕ) → k < 8 → lt (least_square_to v p k) m ≡ false
  unfolding least_square_to nearer_square
  least_floor zero h = each 0 h
  least_floor (suc k) h = picked (least_square_to v p k) (squared (entry v (suc k) ⊖ p)) m (least_floor k (omega arith)) (each (suc k) h)

  miss_floor : lt (miss v p) m ≡ false
  miss_floor = rw (miss_is v p) (least_floor 7 (omega arith))

-- ---- the sum. Neither is negative, and x is not below y
record Over (x y : Float) : Type 0 where
  left : Plain x
  right : Plain y
  over : lt x y ≡ false

both : (x y z w : Float) → Over x y → Over z w → Over (x ⊕ z) (y ⊕ w)
both x y z w p q = record {
  left = add_plain x z p.left q.left;
  right = add_plain y w p.right q.right;
  over = add_not_below x y z w p.left p.right q.left q.right p.over q.over;
}

four : (a b c d x y z w : Float) → Over a x → Over b y → Over c z → Over d w → Over (a ⊕ b ⊕ c ⊕ d) (x ⊕ y ⊕ z ⊕ w)
four a b c d x y z w A B C D = both (a ⊕ b ⊕ c) (x ⊕ y ⊕ z) d w (both (a ⊕ b) (x ⊕ y) c z (both a x b y A B) C) D

sum_over : (f g : ℕ → Float) → ((i : ℕ) → i < 16 → Over (f i) (g i)) → Over (sum_in_order (per_pixel f)) (sum_in_order (per_pixel g))
unfolding tabulate
sum_over f g each =
    four _ _ _ _ _ _ _ _
    (four (f 0) (f 4) (f 8) (f 12) (g 0) (g 4) (g 8) (g 12) (each 0 (omega arith)) (each 4 (omega arith)) (each 8 (omega arith)) (each 12 (omega arith)))
    (four (f 1) (f 5) (f 9) (f 13) (g 1) (g 5) (g 9) (g 13) (each 1 (omega arith)) (each 5 (omega arith)) (each 9 (omega arith)) (each 13 (omega arith)))
    (four (f 2) (f 6) (f 10) (f 14) (g 2) (g 6) (g 10) (g 14) (each 2 (omega arith)) (each 6 (omega arith)) (each 10 (omega arith)) (each 14 (omega arith)))
    (four (f 3) (f 7) (f 11) (f 15) (g 3) (g 7) (g 11) (g 15) (each 3 (omega arith)) (each 7 (omega arith)) (each 11 (omega arith)) (each 15 (omega arith)))

miss_plain : (v : List Float) (p : Float) → Plain (miss v p)
unfolding miss
miss_plain v p = squared_plain (least_to v p 7)

pub error_floor : (kind : Kind) (b : List Float) (c0 c1 : Float) (floor : ℕ → Float) → ((i : ℕ) → Plain (floor i))
    → ((i k : ℕ) → i < 16 → k < 8 → lt (squared (entry (values_of kind c0 c1) k ⊖ pixel_at b i)) (floor i) ≡ false)
    → lt (palette_error kind b c0 c1) (sum_in_order (per_pixel floor)) ≡ false
unfolding palette_error
error_floor kind b c0 c1 floor plain each =
    (sum_over (λ i. miss (values_of kind c0 c1) (pixel_at b i)) floor
    (λ i h. record {
      left = miss_plain (values_of kind c0 c1) (pixel_at b i);
      right = plain i;
      over = miss_floor (values_of kind c0 c1) (pixel_at b i) (floor i) (λ k l. each i k h l);
    })
    ).over

-- ---- a part of the sum. What a float holds stays as it is with 0 added,
add_0 : (x : Float) → T (fits binary32 x) → Plain x → x ⊕ f0 ≡ x
add_0 nan p s = unfold add in refl
add_0 (inf true) p s = clash refl s
add_0 (inf false) p s = unfold add of_bits in refl
add_0 (fin true m e) p s = clash refl s
add_0 (fin false m e) p s = unfold add sum of_bits in rw (left (m * up e) (down e), mul-one (down e)) (round_fixed m e p)
  where
    left : (a d : ℕ) → a * 1 + 0 * 1 * d ≡ a
    left a d = omega arith

-- so that a sum that grows is not below where it began
grown : (x y z : Float) → T (fits binary32 y) → Over x y → Plain z → Over (x ⊕ z) y
grown x y z f o p = record {
  left = add_plain x z o.left p;
  right = o.right;
  over = subst (λ (w : Float). lt (x ⊕ z) w ≡ false) (add_0 y f o.right)
      (add_not_below x y z f0 o.left o.right p (unfold of_bits in refl) o.over (plain_not_below z p));
}

module _ (v b : List Float) where
  abbrev part : ℕ → Float
  part i = miss v (pixel_at b i)

  held : (i : ℕ) → T (fits binary32 (part i))
  unfolding miss
  held i = mul-fits binary32 _ _

  lane : (i j k l : ℕ) → Over (part i ⊕ part j ⊕ part k ⊕ part l) (part i)
  lane i j k l =
      let plain : (n : ℕ) → Plain (part n) = λ n. miss_plain v (pixel_at b n) in
      let one : Over (part i) (part i) = record { left = plain i; right = plain i; over = lt_irrefl (part i) } in
      grown _ (part i) (part l) (held i) (grown _ (part i) (part k) (held i) (grown _ (part i) (part j) (held i) one (plain j)) (plain k)) (plain l)

  row_over : Over (sum_in_order (per_pixel part)) (first_row_sum v b)
  unfolding first_row_sum tabulate
  row_over = four _ _ _ _ _ _ _ _ (lane 0 4 8 12) (lane 1 5 9 13) (lane 2 6 10 14) (lane 3 7 11 15)

pub row_floor_lem : (kind : Kind) (b : List Float) (c0 c1 : Float) → lt (palette_error kind b c0 c1) (first_row_error kind b c0 c1) ≡ false
unfolding palette_error
row_floor_lem kind b c0 c1 = (row_over (values_of kind c0 c1) b).over
