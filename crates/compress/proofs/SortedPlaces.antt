-- Place k of the sorted sixteen is `placed b k`, for every block: NaN, zeros of both signs and values outside 0..1 too.
use mathlib.Core.Path.{◌≡◌, refl, sym, ap, ◌∙◌}
use mathlib.Core.Bool.{Bool, true, false, cond, ◌||◌}
use mathlib.Core.List.{List, [], ◌∷◌, map}
use Prim.Native.Nat.{ℕ, ◌≤◌, ◌<◌}
use native.Mathlib.Nat.{div-one, mod-one}
use native.Mathlib.Omega.{arith}
use borrow.Author.Tests.{lt-ltb, ltb-true}
use lib.Dec.{T, ltb}
use lib.ListN.{get_or}
use lib.Ieee.{Float, binary32, lt, le, eq, fits, is_nan, of_bits}
use Rattle.floats.specs.Arithmetic.{f0, f1, f2}
use Rattle.floats.proofs.Tests.{clash}
use Rattle.floats.proofs.Order.{lt_left, le_refl, le_trans}
use Rattle.floats.proofs.Ranges.{real_1}
use Rattle.floats.proofs.Equal.{le_of_eq, eq_of_le, same_off_zero}
use Rattle.block.specs.Samples.{pixel_at, tabulate, per_pixel}
use Rattle.block.proofs.Fill.{get_d_tabulate, tabulated}
use Rattle.compress.specs.Sorted.{count_to, not_above, placed}
use Rattle.compress.specs.Network.{run, steps_from, steps, capped, sorted, held_to1, InOrder, first_zero}
use Rattle.compress.proofs.Rows.{true_first, parted, total, whole_row}
use Rattle.compress.proofs.SortedSixteen.{placed_real, placed_le}
use Rattle.compress.proofs.FirstZero.{first_zero_lem, placed_fits}
use Rattle.compress.proofs.Thresholds.{exchange_le, Each, run_keeps, Real, not_over, at_map, run_tests}

-- what holds of each value that enters holds of each that is sorted
pub sorted_keeps : (Q : Float → Type 0) (b : List Float) → Each Q (capped b) → Each Q (sorted b)
unfolding sorted steps_from
sorted_keeps Q b each = run_keeps Q steps tt (capped b) each

real_2 : is_nan f2 ≡ false
unfolding is_nan of_bits
real_2 = refl

module _ (b : List Float) where
  entered_real : Each Real (capped b)
  unfolding capped
  entered_real k h = rw (get_d_tabulate) (go (lt (pixel_at b k) f2) refl)
    where
      go : (t : Bool) → lt (pixel_at b k) f2 ≡ t → is_nan (cond t (pixel_at b k) f2) ≡ false
      go true e = lt_left (pixel_at b k) f2 e
      go false e = real_2

  module _ (x : Float) where
    -- 2 stands for a NaN and for what is above it
    abbrev test : ℕ → Bool
    test i = le f2 x || le (pixel_at b i) x

    entered_tests : map (not_over x) (capped b) ≡ per_pixel test
    unfolding capped tabulate
    entered_tests = tabulated false test (map (not_over x) (capped b)) refl (λ k h. at_map x (capped b) k ∙ rw (get_d_tabulate) (exchange_le f2 (pixel_at b k) x real_2).0)

    sorted_tests : map (not_over x) (sorted b) ≡ parted (total test ∷ [])
    unfolding sorted steps_from
    sorted_tests = run_tests x steps tt (capped b) entered_real ∙ ap (run true_first steps) entered_tests ∙ whole_row test

    total_is : (k : ℕ) → k < 16 → (t : Bool) → ltb k (total (λ i. t || le (pixel_at b i) x)) ≡ t || ltb k (not_above b x)
    unfolding count_to
    total_is k h true = lt-ltb k 16 h
    total_is k h false = ap (ltb k) (omega arith)

    -- Place k is not above x exactly when 2 is not, or more than k samples are not.
    pub sorted_le : (k : ℕ) → k < 16 → le (pixel_at (sorted b) k) x ≡ le f2 x || ltb k (not_above b x)
    sorted_le k h = sym (at_map x (sorted b) k) ∙ ap (λ r. get_or r k false) sorted_tests ∙ get_d_tabulate _ false h ∙ rw (div-one, mod-one) (total_is k h (le f2 x))

    -- Held to 1, as `placed` says.
    held_le : (k : ℕ) → k < 16 → le (held_to1 (pixel_at (sorted b) k)) x ≡ le (placed b k) x
    held_le k h =
        (exchange_le f1 (pixel_at (sorted b) k) x real_1).0 ∙ rw (sorted_le k h) (absorbed (le f1 x) (le f2 x) (ltb k (not_above b x)) (le_trans f1 f2 x (unfold le of_bits in refl)))
        ∙ sym (placed_le b k x)
      where
        absorbed : (one two t : Bool) → (two ≡ true → one ≡ true) → one || (two || t) ≡ one || t
        absorbed true two t f = refl
        absorbed false true t f = clash (f refl) refl
        absorbed false false t f = refl

  -- ---- The place that is looked up is the sample of that place.
  module _ (k : ℕ) (h : k < 16) where
    sorted_real : is_nan (pixel_at (sorted b) k) ≡ false
    sorted_real = sorted_keeps Real b entered_real k h

    abbrev found : Float
    found = held_to1 (pixel_at (sorted b) k)

    held_keeps : (Q : Float → Type 0) → Q f1 → Q (pixel_at (sorted b) k) → Q found
    held_keeps Q p q = go (lt (pixel_at (sorted b) k) f1)
      where
        go : (t : Bool) → Q (cond t (pixel_at (sorted b) k) f1)
        go true = q
        go false = p

    not_over_lem : le found (placed b k) ≡ true
    not_over_lem = held_le (placed b k) k h ∙ le_refl (placed b k) (placed_real b k)

    not_under : le (placed b k) found ≡ true
    not_under = sym (held_le found k h) ∙ le_refl found (held_keeps Real real_1 sorted_real)

    -- Equal values of an f32 are the same datum, but for zeros, of which the first of the block stands for all.
    pub sorted_place : {s : List Float} → InOrder b s → cond (eq (held_to1 (pixel_at s k)) f0) (first_zero b) (held_to1 (pixel_at s k)) ≡ placed b k
    sorted_place o = rw o.is_sorted (go (eq found f0) refl)
      where
        f32 : Float → Type 0
        f32 y = T (fits binary32 y)

        go : (t : Bool) → eq found f0 ≡ t → cond t (first_zero b) found ≡ placed b k
        go true e =
            let z = le_of_eq found f0 e in
            sym (first_zero_lem b k (eq_of_le (placed b k) f0 (sym (held_le f0 k h) ∙ z.0) (le_trans f0 found (placed b k) z.1 not_over_lem)))
        go false e =
            same_off_zero found (placed b k) (held_keeps f32 (unfold fits of_bits in tt) (sorted_keeps f32 b o.fit k h)) (placed_fits b k o.fit) not_over_lem not_under e

  -- The places are in order.
  pub sorted_ordered : (k l : ℕ) → k ≤ l → l < 16 → le (pixel_at (sorted b) k) (pixel_at (sorted b) l) ≡ true
  sorted_ordered k l h m =
      let x = pixel_at (sorted b) l in
      sorted_le x k (omega arith) ∙ grown (le f2 x) (not_above b x) (sym (sorted_le x l m) ∙ le_refl x (sorted_real l m))
    where
      grown : (t : Bool) (n : ℕ) → t || ltb l n ≡ true → t || ltb k n ≡ true
      grown true n e = refl
      grown false n e = let o : l < n = ltb-true l n e in lt-ltb k n (omega arith)
