-- How many samples are not above a float, as a count over the first n, and the largest of those.
use mathlib.Core.Path.{◌≡◌, refl}
use mathlib.Core.Logic.{◌⊎◌, inl, inr, ⊎_elim, dite}
use mathlib.Core.Bool.{Bool, true, false, cond}
use mathlib.Core.List.{List}
use Prim.Native.Nat.{ℕ, zero, suc, ◌+◌, ◌≤◌, ◌<◌}
use native.Mathlib.Decide.{dec_lt}
use native.Mathlib.Omega.{arith}
use lib.Ieee.{Float, le, is_nan}
use Rattle.floats.proofs.Tests.{clash, either}
use Rattle.floats.proofs.Order.{le_left, le_right, le_of_lt, le_refl, le_total, le_trans}
use Rattle.block.specs.Samples.{pixel_at}
use Rattle.compress.specs.Sorted.{count_to}

-- what holds below n and at n holds below n + 1
pub up_to : (P : ℕ → Type 0) (n : ℕ) → ((i : ℕ) → i < n → P i) → P n → (i : ℕ) → i < suc n → P i
up_to P n before at i h = dite (dec_lt i n) (λ l. before i l) (λ l. let e : i ≡ n = omega arith in rw e at)

one_more : (m n : ℕ) (s t : Bool) → m ≤ n → (s ≡ true → t ≡ true) → m + cond s 1 0 ≤ n + cond t 1 0
one_more m n true true h f = omega arith
one_more m n true false h f = clash (f refl) refl
one_more m n false true h f = omega arith
one_more m n false false h f = omega arith

module _ (b : List Float) where
  -- y counts each of the first n samples that x counts
  abbrev pub Covers : Float → Float → ℕ → Type 0
  Covers y x n = (i : ℕ) → i < n → le (pixel_at b i) x ≡ true → le (pixel_at b i) y ≡ true

  pub count_mono : (x y : Float) (n : ℕ) → Covers y x n → count_to b x n ≤ count_to b y n
  unfolding count_to
  count_mono x y zero u = omega arith
  count_mono x y (suc n) u =
      one_more (count_to b x n) (count_to b y n) (le (pixel_at b n) x) (le (pixel_at b n) y)
      (count_mono x y n (λ i h. u i (omega arith))) (u n (omega arith))

  -- more, where y counts one that x does not
  pub count_lt : (x y : Float) (n : ℕ) → Covers y x n → (i : ℕ) → i < n → le (pixel_at b i) x ≡ false → le (pixel_at b i) y ≡ true
      → count_to b x n < count_to b y n
  unfolding count_to
  count_lt x y zero u i h p q = absurd (omega arith)
  count_lt x y (suc n) u i h p q =
      let less : Covers y x n = λ j l. u j (omega arith) in
      dite (dec_lt i n)
      (λ l.
      let h : suc (count_to b x n) ≤ count_to b y n = count_lt x y n less i l p q in
      omega (arith, one_more (suc (count_to b x n)) (count_to b y n) (le (pixel_at b n) x) (le (pixel_at b n) y) h (u n (omega arith))))
      (λ l. let e : i ≡ n = omega arith in rw (rw e at p, rw e at q) (omega (arith, count_mono x y n less)))

  -- one is enough for a count above 0
  pub count_some : (y : Float) (n i : ℕ) → i < n → le (pixel_at b i) y ≡ true → 0 < count_to b y n
  unfolding count_to
  count_some y zero i h e = absurd (omega arith)
  count_some y (suc n) i h e =
      dite (dec_lt i n)
      (λ l. omega (arith, count_some y n i l e))
      (λ l. let g : i ≡ n = omega arith in rw (rw g at e) (omega arith))

  abbrev pub None : Float → ℕ → Type 0
  None x n = (i : ℕ) → i < n → le (pixel_at b i) x ≡ false

  pub count_none : (x : Float) (n : ℕ) → None x n → count_to b x n ≡ 0
  unfolding count_to
  count_none x zero f = refl
  count_none x (suc n) f = rw (f n (omega arith), count_none x n (λ i h. f i (omega arith)))

  pub count_all : (x : Float) (n : ℕ) → ((i : ℕ) → i < n → le (pixel_at b i) x ≡ true) → count_to b x n ≡ n
  unfolding count_to
  count_all x zero f = refl
  count_all x (suc n) f = rw (f n (omega arith), count_all x n (λ i h. f i (omega arith))) (omega arith)

  pub count_le : (x : Float) (n : ℕ) → count_to b x n ≤ n
  unfolding count_to
  count_le x zero = omega arith
  count_le x (suc n) = go (le (pixel_at b n) x) (count_le x n)
    where
      go : (t : Bool) → count_to b x n ≤ n → count_to b x n + cond t 1 0 ≤ suc n
      go true h = omega arith
      go false h = omega arith

  -- what a sample is not above is no NaN
  pub count_real : (x : Float) (n : ℕ) → 0 < count_to b x n → is_nan x ≡ false
  count_real x n h = ⊎_elim (λ e. absurd (omega (arith, count_none x n (λ i l. under e i)))) (λ e. e) (either (is_nan x))
    where
      under : is_nan x ≡ true → (i : ℕ) → le (pixel_at b i) x ≡ false
      under e i = ⊎_elim (λ h. clash e (le_right (pixel_at b i) x h)) (λ h. h) (either (le (pixel_at b i) x))

  -- ---- of the first n none is not above x, or there is a largest of those
  pub record Top (x : Float) (n : ℕ) : Type 0 where
    pub at : ℕ
    pub one : at < n
    pub counted : le (pixel_at b at) x ≡ true
    pub largest : Covers (pixel_at b at) x n

  grown : (x : Float) (n i : ℕ) → i < suc n → le (pixel_at b i) x ≡ true → Covers (pixel_at b i) x n
      → (le (pixel_at b n) x ≡ true → le (pixel_at b n) (pixel_at b i) ≡ true) → Top x (suc n)
  grown x n i l e c h = record {
    at = i;
    one = l;
    counted = e;
    largest = up_to (λ j. le (pixel_at b j) x ≡ true → le (pixel_at b j) (pixel_at b i) ≡ true) n c h;
  }

  pub top : (x : Float) (n : ℕ) → None x n ⊎ Top x n
  top x zero = inl (λ i h. absurd (omega arith))
  top x (suc n) = go (le (pixel_at b n) x) refl (top x n)
    where
      last : le (pixel_at b n) x ≡ true → Covers (pixel_at b n) x n → Top x (suc n)
      last e c = grown x n n (omega arith) e c (λ k. le_refl (pixel_at b n) (le_left (pixel_at b n) x k))

      kept : (t : Top x n) → (le (pixel_at b n) x ≡ true → le (pixel_at b n) (pixel_at b t.at) ≡ true) → Top x (suc n)
      kept t h = let l : t.at < n = t.one in grown x n t.at (omega arith) t.counted t.largest h

      go : (t : Bool) → le (pixel_at b n) x ≡ t → None x n ⊎ Top x n → None x (suc n) ⊎ Top x (suc n)
      go false e (inl f) = inl (up_to (λ i. le (pixel_at b i) x ≡ false) n f e)
      go false e (inr t) = inr (kept t (λ k. clash k e))
      go true e (inl f) = inr (last e (λ i h k. clash k (f i h)))
      go true e (inr t) =
          ⊎_elim (λ h. inr (kept t (λ k. h)))
          (λ h.
          let above : le (pixel_at b t.at) (pixel_at b n) ≡ true = le_of_lt (pixel_at b t.at) (pixel_at b n) h in
          inr (last e (λ i j k. le_trans (pixel_at b i) (pixel_at b t.at) (pixel_at b n) (t.largest i j k) above)))
          (le_total (pixel_at b n) (pixel_at b t.at) (le_left (pixel_at b n) x e) (le_left (pixel_at b t.at) x t.counted))
