-- `placed` is the sorted sixteen, for samples in 0..1: the places are in order, each holds a sample, and as many places as samples are not
-- above any float. All of it follows from `placed_le`, which holds of every block.
use mathlib.Core.Path.{◌≡◌, refl, sym, ◌∙◌}
use mathlib.Core.Logic.{◌⊎◌, inl, inr, ⊎_elim}
use mathlib.Core.Bool.{Bool, true, false, cond, ◌||◌}
use mathlib.Core.List.{List}
use Prim.Native.Nat.{ℕ, zero, suc, min, ◌+◌, ◌≤◌, ◌<◌}
use native.Mathlib.Omega.{arith}
use borrow.Author.Tests.{lt-ltb, le-ltb, ltb-true, ltb-false}
use lib.Dec.{ltb}
use lib.Ieee.{Float, nan, lt, le, is_nan}
use Rattle.floats.specs.Arithmetic.{f1}
use Rattle.floats.specs.Helpers.{min_of}
use Rattle.floats.proofs.Tests.{clash, either}
use Rattle.floats.proofs.Order.{lt_left, lt_trans, lt_of_not, le_left, le_of_lt, le_of_not, le_refl, le_trans, ne_self}
use Rattle.floats.proofs.Ranges.{real_1}
use Rattle.block.specs.Samples.{pixel_at, per_pixel}
use Rattle.block.specs.Block.{InUnit}
use Rattle.block.proofs.Fill.{get_d_tabulate}
use Rattle.compress.specs.Sorted.{count_to, not_above, placed_to, placed, place_of}
use Rattle.compress.proofs.Counting.{up_to, count_mono, count_lt, count_some, count_none, count_all, count_le, count_real, Top, top}

one_up : (n m : ℕ) → min n m + cond (ltb n m) 1 0 ≡ min (suc n) m
one_up n m = go (ltb n m) refl
  where
    go : (t : Bool) → ltb n m ≡ t → min n m + cond t 1 0 ≡ min (suc n) m
    go true e = let h : n < m = ltb-true n m e in omega arith
    go false e = let h : m ≤ n = ltb-false n m e in omega arith

-- ---- the smaller of two: the second only where it is below the first, which is no NaN
pub min_cases : (Q : Float → Type 0) (x y : Float) → is_nan x ≡ false → (lt y x ≡ false → Q x) → (lt y x ≡ true → Q y) → Q (min_of x y)
min_cases Q x y r p q = rw (ne_self x, r) (go (lt y x) refl)
  where
    go : (t : Bool) → lt y x ≡ t → Q (cond (t || false) y x)
    go true e = q e
    go false e = p e

-- ---- the places
module _ (b : List Float) where
  -- 1 itself, or a sample below it
  pub placed_below_1 : (k n : ℕ) → (placed_to b k n ≡ f1) ⊎ (lt (placed_to b k n) f1 ≡ true)
  unfolding placed_to
  placed_below_1 k zero = inl refl
  placed_below_1 k (suc n) = go (ltb k (not_above b (pixel_at b n))) (placed_below_1 k n)
    where
      Low : Float → Type 0
      Low y = (y ≡ f1) ⊎ (lt y f1 ≡ true)

      go : (t : Bool) → Low (placed_to b k n) → Low (cond t (min_of (placed_to b k n) (pixel_at b n)) (placed_to b k n))
      go true s =
          min_cases Low (placed_to b k n) (pixel_at b n) (⊎_elim (λ e. rw e real_1) (λ l. lt_left (placed_to b k n) f1 l) s) (λ h. s)
          (λ h. inr (⊎_elim (λ e. rw e at h) (λ l. lt_trans (pixel_at b n) (placed_to b k n) f1 h l) s))
      go false s = s

  placed_to_1 : (k n : ℕ) → le (placed_to b k n) f1 ≡ true
  placed_to_1 k n = ⊎_elim (λ e. rw e (le_refl f1 real_1)) (λ l. le_of_lt (placed_to b k n) f1 l) (placed_below_1 k n)

  -- and so no NaN, whatever the samples
  to_real : (k n : ℕ) → is_nan (placed_to b k n) ≡ false
  to_real k n = le_left (placed_to b k n) f1 (placed_to_1 k n)

  pub placed_real : (k : ℕ) → is_nan (placed b k) ≡ false
  placed_real k = to_real k 16

  -- what holds of 1 and of each sample with more than k samples not above it
  pub placed_from : (Q : Float → Type 0) (k n : ℕ) → Q f1 → ((i : ℕ) → i < n → k < not_above b (pixel_at b i) → Q (pixel_at b i)) → Q (placed_to b k n)
  unfolding placed_to
  placed_from Q k zero q each = q
  placed_from Q k (suc n) q each = go (ltb k (not_above b (pixel_at b n))) refl (placed_from Q k n q (λ i h. each i (omega arith)))
    where
      go : (t : Bool) → ltb k (not_above b (pixel_at b n)) ≡ t → Q (placed_to b k n) → Q (cond t (min_of (placed_to b k n) (pixel_at b n)) (placed_to b k n))
      go true e p = min_cases Q (placed_to b k n) (pixel_at b n) (to_real k n) (λ h. p) (λ h. each n (omega arith) (ltb-true _ _ e))
      go false e p = p

  -- at most each of those samples
  pub placed_under : (k n i : ℕ) → i < n → k < not_above b (pixel_at b i) → le (placed_to b k n) (pixel_at b i) ≡ true
  unfolding placed_to
  placed_under k zero i h m = absurd (omega arith)
  placed_under k (suc n) i h m =
      up_to (λ i. k < not_above b (pixel_at b i) → le (placed_to b k (suc n)) (pixel_at b i) ≡ true) n
      (λ i h m. go (ltb k (not_above b (pixel_at b n))) i (placed_under k n i h m))
      (λ m. rw (lt-ltb k (not_above b (pixel_at b n)) m) (last (count_real b (pixel_at b n) 16 (omega arith)))) i h m
    where
      last : is_nan (pixel_at b n) ≡ false → le (min_of (placed_to b k n) (pixel_at b n)) (pixel_at b n) ≡ true
      last r =
          min_cases (λ y. le y (pixel_at b n) ≡ true) (placed_to b k n) (pixel_at b n) (to_real k n)
          (le_of_not (placed_to b k n) (pixel_at b n) (to_real k n) r) (λ e. le_refl (pixel_at b n) r)

      go : (t : Bool) (i : ℕ) → le (placed_to b k n) (pixel_at b i) ≡ true
          → le (cond t (min_of (placed_to b k n) (pixel_at b n)) (placed_to b k n)) (pixel_at b i) ≡ true
      go true i h =
          min_cases (λ y. le y (pixel_at b i) ≡ true) (placed_to b k n) (pixel_at b n) (to_real k n) (λ e. h)
          (λ e. le_trans (pixel_at b n) (placed_to b k n) (pixel_at b i) (le_of_lt (pixel_at b n) (placed_to b k n) e) h)
      go false i h = h

  -- The law that all others follow from: place k is not above x exactly when 1 is not, or more than k samples are not.
  pub placed_le : (k : ℕ) (x : Float) → le (placed b k) x ≡ (le f1 x || ltb k (not_above b x))
  placed_le k x = go (le f1 x) refl (ltb k (not_above b x)) refl
    where
      reached : k < not_above b x → le (placed b k) x ≡ true
      reached m =
          ⊎_elim (λ f. absurd (omega (arith, count_none b x 16 f)))
          (λ t.
          let m : k < not_above b (pixel_at b t.at) = omega (arith, count_mono b x (pixel_at b t.at) 16 t.largest) in
          le_trans (placed b k) (pixel_at b t.at) x (placed_under k 16 t.at t.one m) t.counted)
          (top b x 16)

      above : le f1 x ≡ false → not_above b x ≤ k → le (placed b k) x ≡ false
      above p few =
          placed_from (λ y. le y x ≡ false) k 16 p
          (λ i l m.
          ⊎_elim (λ e. absurd (omega (arith, count_mono b (pixel_at b i) x 16 (λ j n f. le_trans (pixel_at b j) (pixel_at b i) x f e))))
          (λ e. e) (either (le (pixel_at b i) x)))

      go : (s : Bool) → le f1 x ≡ s → (t : Bool) → ltb k (not_above b x) ≡ t → le (placed b k) x ≡ (s || t)
      go true p t q = le_trans (placed b k) f1 x (placed_to_1 k 16) p
      go false p true q = reached (ltb-true k (not_above b x) q)
      go false p false q = above p (ltb-false k (not_above b x) q)

  module _ (u : InUnit b) where
    real : (i : ℕ) → i < 16 → is_nan (pixel_at b i) ≡ false
    real i h = le_left (pixel_at b i) f1 (u.to_1 i h)

    -- In 0..1 the 1 adds nothing: where it is not above x, no sample is.
    pub placed_le_unit : (k : ℕ) → k < 16 → (x : Float) → le (placed b k) x ≡ ltb k (not_above b x)
    placed_le_unit k h x = placed_le k x ∙ go (le f1 x) refl
      where
        go : (t : Bool) → le f1 x ≡ t → (t || ltb k (not_above b x)) ≡ ltb k (not_above b x)
        go true e = sym (lt-ltb k (not_above b x) (omega (arith, count_all b x 16 (λ i l. le_trans (pixel_at b i) f1 x (u.to_1 i l) e))))
        go false e = refl

    own_place : (k : ℕ) → k < 16 → k < not_above b (placed b k)
    own_place k h = ltb-true k (not_above b (placed b k)) (sym (placed_le_unit k h (placed b k)) ∙ le_refl (placed b k) (placed_real k))

    -- The places are in order,
    pub placed_ordered : (k l : ℕ) → k ≤ l → l < 16 → le (placed b k) (placed b l) ≡ true
    placed_ordered k l h m =
        let own : l < not_above b (placed b l) = own_place l m in
        placed_le_unit k (omega arith) (placed b l) ∙ lt-ltb k (not_above b (placed b l)) (omega arith)

    places_counted : (x : Float) (n : ℕ) → n ≤ 16 → count_to (per_pixel (placed b)) x n ≡ min n (not_above b x)
    unfolding count_to
    places_counted x zero h = omega arith
    places_counted x (suc n) h = rw (get_d_tabulate (placed b) nan h, places_counted x n (omega arith), placed_le_unit n h x) (one_up n (not_above b x))

    -- as many of them as of the samples are not above x, whatever x,
    pub placed_count : (x : Float) → not_above (per_pixel (placed b)) x ≡ not_above b x
    placed_count x = omega (arith, count_le b x 16, places_counted x 16 (omega arith))

    -- and each is a sample, where a sample that is not below 1 is 1 itself, as after entry (`entered_one`).
    pub placed_is_sample : ((i : ℕ) → i < 16 → le f1 (pixel_at b i) ≡ true → pixel_at b i ≡ f1) → (k : ℕ) → k < 16
        → (i : ℕ) × (i < 16) × (placed b k ≡ pixel_at b i)
    placed_is_sample one k h =
        ⊎_elim first (λ s. s)
        (placed_from (λ y. (y ≡ f1) ⊎ ((i : ℕ) × (i < 16) × (y ≡ pixel_at b i))) k 16 (inl refl) (λ i l m. inr (i, l, refl)))
      where
        first : placed b k ≡ f1 → (i : ℕ) × (i < 16) × (placed b k ≡ pixel_at b i)
        first e =
            ⊎_elim (λ f. clash (u.to_1 0 (omega arith)) (f 0 (omega arith)))
            (λ (t : Top b f1 16).
            let m : k < not_above b (pixel_at b t.at) = omega (arith, count_all b f1 16 u.to_1, count_mono b f1 (pixel_at b t.at) 16 t.largest) in
            (t.at, t.one, e ∙ sym (one t.at t.one (rw e at (placed_under k 16 t.at t.one m)))))
            (top b f1 16)

    -- Above the place of x every place is above x,
    pub place_of_last : (x : Float) → is_nan x ≡ false → (k : ℕ) → place_of b x < k → k < 16 → lt x (placed b k) ≡ true
    place_of_last x p k h l = lt_of_not x (placed b k) p (placed_real k) (placed_le_unit k l x ∙ le-ltb k (not_above b x) (omega arith))

    -- and for a sample the place itself holds a sample equal to it.
    pub place_of_equal : (i : ℕ) → i < 16
        → (le (placed b (place_of b (pixel_at b i))) (pixel_at b i) ≡ true) × (le (pixel_at b i) (placed b (place_of b (pixel_at b i))) ≡ true)
    place_of_equal i h =
        let x = pixel_at b i in
        let y = placed b (place_of b x) in
        let few : not_above b x ≤ 16 = count_le b x 16 in
        let some : 0 < not_above b x = count_some b x 16 i h (le_refl x (real i h)) in
        let own : place_of b x < not_above b y = own_place (place_of b x) (omega arith) in (
          placed_le_unit (place_of b x) (omega arith) x ∙ lt-ltb (place_of b x) (not_above b x) (omega arith),
          ⊎_elim (λ e. e)
              (λ e.
              let below : le y x ≡ true = le_of_lt y x (lt_of_not y x (placed_real (place_of b x)) (real i h) e) in
              absurd (omega (arith, count_lt b y x 16 (λ j l k. le_trans (pixel_at b j) y x k below) i h e (le_refl x (real i h)))))
              (either (le x y)),
        )

    -- Where equal samples are identical, as after entry (`entered_identical`), that is the sample itself.
    pub place_of_is : ((i : ℕ) → i < 16 → le f1 (pixel_at b i) ≡ true → pixel_at b i ≡ f1)
        → ((i j : ℕ) → i < 16 → j < 16 → le (pixel_at b i) (pixel_at b j) ≡ true → le (pixel_at b j) (pixel_at b i) ≡ true → pixel_at b i ≡ pixel_at b j)
        → (i : ℕ) → i < 16 → placed b (place_of b (pixel_at b i)) ≡ pixel_at b i
    place_of_is one same i h =
        let e = place_of_equal i h in
        let t = placed_is_sample one (place_of b (pixel_at b i)) (omega (arith, count_le b (pixel_at b i) 16)) in
        t.2 ∙ same t.0 i t.1 h (rw t.2 at e.0) (rw t.2 at e.1)
