-- A pass by its steps, as its loop takes them, and what a single step may do.
use mathlib.Core.Path.{◌≡◌, refl}
use mathlib.Core.Logic.{◌⊎◌, inl, inr, ⊎_elim}
use mathlib.Core.Bool.{Bool, true, false, cond}
use mathlib.Core.List.{List, [], ◌∷◌, ◌++◌}
use Prim.Native.Nat.{ℕ, suc, ◌+◌, ◌-◌, ◌/◌, ◌%◌, ◌<◌}
use native.Mathlib.Numerals.{add-one}
use native.Mathlib.Omega.{arith}
use lib.Dec.{eqb}
use lib.ListN.{set}
use lib.Seq.{set-get_or}
use lib.Ieee.{Float, nan, lt}
use Rattle.block.specs.Samples.{pixel_at}
use Rattle.compress.specs.Network.{Choice, smaller_first, Step, stepped, run, steps_from}

pub run_append : {A : Type 0} (o : Choice A) (ts us : List Step) (s : List A) → run o (ts ++ us) s ≡ run o us (run o ts s)
unfolding run
run_append o [] us s = refl
run_append o (t ∷ ts) us s = run_append o ts us (stepped o s t)

-- the place i is done, or is none of the pass
pub pass_more : {A : Type 0} (o : Choice A) (p r d i n : ℕ) (s : List A) → i < n
    → run o (steps_from p r d i (n - i)) s ≡ run o (steps_from p r d (i + 1) (n - (i + 1))) (cond (eqb (i / p % 2) r) (stepped o s (record { i = i; j = i + d })) s)
unfolding steps_from run
pass_more {A} o p r d i n s h =
    let e : n - i ≡ suc (n - (i + 1)) = omega arith in
    rw (e, add-one) (go (eqb (i / p % 2) r))
  where
    go : (t : Bool)
        → run o (cond t (record { i = i; j = i + d } ∷ steps_from p r d (suc i) (n - suc i)) (steps_from p r d (suc i) (n - suc i))) s
        ≡ run o (steps_from p r d (suc i) (n - suc i)) (cond t (stepped o s (record { i = i; j = i + d })) s)
    go true = refl
    go false = refl

-- ---- a step makes no value: it leaves its two or exchanges them
pub left_or_exchanged : (a b : Float)
    → ((smaller_first.first a b ≡ a) × (smaller_first.second a b ≡ b)) ⊎ ((smaller_first.first a b ≡ b) × (smaller_first.second a b ≡ a))
left_or_exchanged a b = go (lt b a)
  where
    go : (later : Bool) → ((cond later b a ≡ a) × (cond later a b ≡ b)) ⊎ ((cond later b a ≡ b) × (cond later a b ≡ a))
    go true = inr (refl, refl)
    go false = inl (refl, refl)

pub step_exchanges : (s : List Float) (t : Step)
    → (stepped smaller_first s t ≡ s) ⊎ (stepped smaller_first s t ≡ set (set s t.i (pixel_at s t.j)) t.j (pixel_at s t.i))
unfolding stepped
step_exchanges s t =
    ⊎_elim (λ e. inl (rw (e.0, e.1, set-get_or s t.i nan) (set-get_or s t.j nan))) (λ e. inr (rw (e.0, e.1)))
    (left_or_exchanged (pixel_at s t.i) (pixel_at s t.j))
