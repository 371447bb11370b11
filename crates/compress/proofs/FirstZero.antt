-- A place that holds a zero holds the first zero of the block, sign and all, so that a sort need not keep the signs of zeros. And each place
-- is an f32.
use mathlib.Core.Path.{◌≡◌, refl, sym, ◌∙◌}
use mathlib.Core.Logic.{◌⊎◌, inl, inr, ⊎_elim}
use mathlib.Core.Bool.{Bool, true, false, cond}
use mathlib.Core.List.{List}
use Prim.Native.Nat.{ℕ, zero, suc, ◌≤◌, ◌<◌}
use native.Mathlib.Omega.{arith}
use borrow.Author.Tests.{ltb-true}
use lib.Dec.{T, ltb}
use lib.Ieee.{Float, nan, binary32, lt, le, eq, fits, of_bits}
use Rattle.floats.specs.Arithmetic.{f0, f1, f2}
use Rattle.floats.specs.Helpers.{min_of, lane_min}
use Rattle.floats.proofs.Tests.{clash, either}
use Rattle.floats.proofs.Order.{lt_irrefl, lt_right, lt_of_not, le_left, le_right, lt_le_trans, le_lt_trans, le_trans, not_of_le}
use Rattle.floats.proofs.Ranges.{real_0}
use Rattle.floats.proofs.Equal.{le_of_eq, eq_of_le}
use Rattle.block.specs.Samples.{pixel_at}
use Rattle.block.proofs.Fill.{get_d_tabulate}
use Rattle.compress.specs.Sorted.{not_above, placed_to, placed}
use Rattle.compress.specs.Network.{capped, first_zero_to, first_zero}
use Rattle.compress.proofs.SortedSixteen.{min_cases, placed_below_1, placed_from, placed_under, placed_le}

-- Of the least so far p and the first zero so far q: p is above 0 and q is none yet, or both are the same zero.
abbrev Alike : Float → Float → Type 0
Alike p q = ((lt f0 p ≡ true) × (eq q f0 ≡ false)) ⊎ ((p ≡ q) × (eq q f0 ≡ true))

-- one sample x more, which counts where t says so
alike_more : (p q x : Float) (t : Bool) → (eq x f0 ≡ true → t ≡ true) → (t ≡ true → le f0 x ≡ true)
    → Alike p q → Alike (cond t (min_of p x) p) (cond (eq q f0) q x)
alike_more p q x t counts low s = go (eq q f0) refl s
  where
    kept : eq p f0 ≡ true → (t : Bool) → (t ≡ true → le f0 x ≡ true) → cond t (min_of p x) p ≡ p
    kept z true low =
        let h : le p x ≡ true = le_trans p f0 x (le_of_eq p f0 z).0 (low refl) in
        min_cases (λ y. y ≡ p) p x (le_left p x h) (λ e. refl) (λ e. clash e (not_of_le p x h))
    kept z false low = refl

    above : lt f0 p ≡ true → eq x f0 ≡ false → (t : Bool) → (t ≡ true → le f0 x ≡ true) → lt f0 (cond t (min_of p x) p) ≡ true
    above l z true low =
        min_cases (λ y. lt f0 y ≡ true) p x (lt_right f0 p l) (λ e. l)
        (λ e.
        lt_of_not f0 x real_0 (le_right f0 x (low refl)) (⊎_elim (λ h. clash (eq_of_le x f0 h (low refl)) z) (λ h. h) (either (le x f0))))
    above l z false low = l

    next : lt f0 p ≡ true → (z : Bool) → eq x f0 ≡ z → Alike (cond t (min_of p x) p) x
    next l true z =
        let h : lt x p ≡ true = le_lt_trans x f0 p (le_of_eq x f0 z).0 l in
        inr (rw (counts z) (min_cases (λ y. y ≡ x) p x (lt_right x p h) (λ e. clash h e) (λ e. refl)), z)
    next l false z = inl (above l z t low, z)

    go : (u : Bool) → eq q f0 ≡ u → Alike p q → Alike (cond t (min_of p x) p) (cond u q x)
    go true z (inl s) = clash z s.1
    go true z (inr s) = inr (kept (rw s.0 z) t low ∙ s.0, z)
    go false z (inl s) = next s.0 (eq x f0) refl
    go false z (inr s) = clash s.1 z

module _ (b : List Float) (k : ℕ) where
  module _ (z : eq (placed b k) f0 ≡ true) where
    -- each zero has more than k samples not above it,
    zero_counts : (x : Float) → eq x f0 ≡ true → ltb k (not_above b x) ≡ true
    zero_counts x e =
        rw under_1 at (sym (placed_le b k x) ∙ le_trans (placed b k) f0 x (le_of_eq (placed b k) f0 z).0 (le_of_eq x f0 e).1)
      where
        under_1 : le f1 x ≡ false
        under_1 = ⊎_elim (λ h. clash (le_trans f1 x f0 h (le_of_eq x f0 e).0) (unfold le of_bits in refl)) (λ h. h) (either (le f1 x))

    -- and a sample that has so many is not below 0
    counts_from_0 : (i : ℕ) → i < 16 → ltb k (not_above b (pixel_at b i)) ≡ true → le f0 (pixel_at b i) ≡ true
    counts_from_0 i h e =
        le_trans f0 (placed b k) (pixel_at b i) (le_of_eq (placed b k) f0 z).1 (placed_under b k 16 i h (ltb-true k (not_above b (pixel_at b i)) e))

    alike : (n : ℕ) → n ≤ 16 → Alike (placed_to b k n) (first_zero_to b n)
    unfolding placed_to first_zero_to
    alike zero h = inl (unfold lt of_bits in refl, unfold eq of_bits in refl)
    alike (suc n) h =
        alike_more (placed_to b k n) (first_zero_to b n) (pixel_at b n) (ltb k (not_above b (pixel_at b n)))
        (zero_counts (pixel_at b n)) (counts_from_0 n h) (alike n (omega arith))

    pub first_zero_lem : placed b k ≡ first_zero b
    first_zero_lem = ⊎_elim (λ s. clash s.0 (not_of_le (placed b k) f0 (le_of_eq (placed b k) f0 z).0)) (λ s. s.0) (alike 16 (omega arith))

  -- A sample below 1 enters as it is, and of the others none is in a place.
  pub placed_fits : ((i : ℕ) → i < 16 → T (fits binary32 (pixel_at (capped b) i))) → T (fits binary32 (placed b k))
  placed_fits fit =
      ⊎_elim (λ e. rw e (unfold fits of_bits in tt))
      (placed_from b (λ y. lt y f1 ≡ true → T (fits binary32 y)) k 16 (λ l. clash l (lt_irrefl f1)) (λ i h m l. rw (entered i h l) at (fit i h)))
      (placed_below_1 b k 16)
    where
      entered : (i : ℕ) → i < 16 → lt (pixel_at b i) f1 ≡ true → pixel_at (capped b) i ≡ pixel_at b i
      entered i h l = unfold capped in get_d_tabulate (λ i. lane_min (pixel_at b i) f2) nan h ∙ rw (lt_le_trans (pixel_at b i) f1 f2 l (unfold le of_bits in refl))
