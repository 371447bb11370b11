-- A loop that fills an array from its start: what holds after i turns, one turn more, and the end.
use mathlib.Core.Path.{◌≡◌, refl, sym, ap, ◌∙◌}
use mathlib.Core.List.{List}
use Prim.Native.Nat.{ℕ, zero, suc, ◌+◌, ◌≤◌, ◌<◌}
use native.Mathlib.Nat.{add-zero, add-suc, suc-add, zero-add}
use native.Mathlib.Omega.{arith}
use lib.ListN.{length, get_or, set, length-set}
use lib.Seq.{get_or-set_same, get_or-set_other, ext_get_or}
use borrow.Author.Count.{below_more}
use Rattle.block.specs.Samples.{tabulate}

module _ {A : Type 0} where
  pub length_tabulate : (f : ℕ → A) (i n : ℕ) → length (tabulate f i n) ≡ n
  unfolding tabulate
  length_tabulate f i zero = refl
  length_tabulate f i (suc n) = ap suc (length_tabulate f (suc i) n)

  get_d_from : (f : ℕ → A) (z : A) (i n k : ℕ) → k < n → get_or (tabulate f i n) k z ≡ f (i + k)
  unfolding tabulate
  get_d_from f z i zero k h = absurd (omega arith)
  get_d_from f z i (suc n) zero h = ap f (sym (add-zero i))
  get_d_from f z i (suc n) (suc k) h = get_d_from f z (suc i) n k (omega arith) ∙ ap f (suc-add i k ∙ sym (add-suc i k))

  pub get_d_tabulate : (f : ℕ → A) (z : A) {n k : ℕ} → k < n → get_or (tabulate f 0 n) k z ≡ f k
  get_d_tabulate f z {n} {k} h = get_d_from f z 0 n k h ∙ ap f (zero-add k)

  pub tabulated : (z : A) (f : ℕ → A) {n : ℕ} (out : List A) → length out ≡ n → ((k : ℕ) → k < n → get_or out k z ≡ f k) → out ≡ tabulate f 0 n
  tabulated z f {n} out e each =
      ext_get_or z out (tabulate f 0 n) (e ∙ sym (length_tabulate f 0 n)) (λ k h. let l : k < n = omega arith in each k l ∙ sym (get_d_tabulate f z l))

  -- out has n elements, of which the first i are f's; z is what a read past the end gives
  pub record Filled (z : A) (f : ℕ → A) (n : ℕ) (out : List A) (i : ℕ) : Type 0 where
    pub within : i ≤ n
    pub size : length out ≡ n
    pub done : (k : ℕ) → k < i → get_or out k z ≡ f k

  pub fill_start : {z : A} {f : ℕ → A} {n : ℕ} {out : List A} → length out ≡ n → Filled z f n out 0
  fill_start e = record { within = omega arith; size = e; done = λ k h. absurd (omega arith) }

  pub fill_step : {z : A} {f : ℕ → A} {n : ℕ} {out : List A} {i : ℕ} {v : A} → Filled z f n out i → i < n → v ≡ f i → Filled z f n (set out i v) (i + 1)
  fill_step {z} {f} {n} {out} {i} {v} o h e = record {
    within = omega arith;
    size = simp length-set o.size;
    done = below_more (λ (k : ℕ). get_or (set out i v) k z ≡ f k) i
        (λ k l. get_or-set_other out i k v z (omega arith) ∙ o.done k l)
        (get_or-set_same out i v z (omega arith) ∙ e);
  }

  pub fill_end : {z : A} {f : ℕ → A} {n : ℕ} {out : List A} {i : ℕ} → Filled z f n out i → n ≤ i → out ≡ tabulate f 0 n
  fill_end {z} {f} {n} {out} {i} o e = tabulated z f out o.size (λ k h. o.done k (omega arith))
