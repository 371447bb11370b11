-- The network over floats, seen from any float x: whether a place is not above x. A step takes two such tests to their 'or' and their 'and', so that the network
-- of floats is one of tests, for each x.
use mathlib.Core.Path.{◌≡◌, refl, sym, ◌∙◌}
use mathlib.Core.Logic.{⊎_elim}
use mathlib.Core.Bool.{Bool, true, false, cond, ◌||◌, ◌&&◌}
use mathlib.Core.List.{List, [], ◌∷◌, map}
use Prim.Native.Nat.{ℕ, zero, suc, ◌<◌}
use lib.Dec.{T, ltb}
use lib.ListN.{get_or, set, get_or-map}
use lib.Ieee.{Float, nan, lt, le, is_nan}
use lib.Ieee.Bits.{is_true}
use borrow.Author.Tests.{ltb-true}
use Rattle.floats.proofs.Tests.{clash}
use Rattle.floats.proofs.Table.{both, both_left, both_right}
use Rattle.floats.proofs.Order.{le_left, le_of_lt, le_of_not, le_trans}
use Rattle.block.specs.Samples.{pixel_at}
use Rattle.compress.specs.Network.{smaller_first, Step, stepped, run}
use Rattle.compress.proofs.Steps.{left_or_exchanged}
use Rattle.compress.proofs.Rows.{true_first}

-- ---- one step, on two floats of which the first is no NaN
weaker_first : (a b : Bool) → (a ≡ true → b ≡ true) → (b ≡ a || b) × (a ≡ a && b)
weaker_first true b f = (f refl, sym (f refl))
weaker_first false b f = (refl, refl)

stronger_first : (a b : Bool) → (b ≡ true → a ≡ true) → (a ≡ a || b) × (b ≡ a && b)
stronger_first true b f = (refl, refl)
stronger_first false true f = clash (f refl) refl
stronger_first false false f = (refl, refl)

pub exchange_le : (a b x : Float) → is_nan a ≡ false
    → (le (smaller_first.first a b) x ≡ le a x || le b x) × (le (smaller_first.second a b) x ≡ le a x && le b x)
exchange_le a b x real = go (lt b a) refl
  where
    go : (t : Bool) → lt b a ≡ t → (le (cond t b a) x ≡ le a x || le b x) × (le (cond t a b) x ≡ le a x && le b x)
    go true e = weaker_first (le a x) (le b x) (λ h. le_trans b a x (le_of_lt b a e) h)
    go false e = stronger_first (le a x) (le b x) (λ h. le_trans a b x (le_of_not a b real (le_left b x h) e) h)

-- ---- any list of steps within the sixteen
abbrev pub within : List Step → Bool
within [] = true
within (t ∷ ts) = both (both (ltb t.i 16) (ltb t.j 16)) (within ts)

step_within : (t : Step) (ts : List Step) → T (within (t ∷ ts)) → (t.i < 16) × (t.j < 16) × T (within ts)
step_within t ts w =
    let here = both_left (both (ltb t.i 16) (ltb t.j 16)) (within ts) w in (
      ltb-true _ _ (is_true _ (both_left (ltb t.i 16) (ltb t.j 16) here)),
      ltb-true _ _ (is_true _ (both_right (ltb t.i 16) (ltb t.j 16) here)),
      both_right (both (ltb t.i 16) (ltb t.j 16)) (within ts) w,
    )

-- ---- what holds of each value before holds of each after: a step makes no value
abbrev pub Each : (Float → Type 0) → List Float → Type 0
Each Q s = (k : ℕ) → k < 16 → Q (pixel_at s k)

set_picks : (Q : Float → Type 0) (s : List Float) (i : ℕ) (y : Float) (k : ℕ) → Q y → Q (pixel_at s k) → Q (pixel_at (set s i y) k)
set_picks Q [] i y k p q = q
set_picks Q (x ∷ s) zero y zero p q = p
set_picks Q (x ∷ s) zero y (suc k) p q = q
set_picks Q (x ∷ s) (suc i) y zero p q = q
set_picks Q (x ∷ s) (suc i) y (suc k) p q = set_picks Q s i y k p q

module _ (Q : Float → Type 0) where
  step_keeps : (s : List Float) (t : Step) → t.i < 16 → t.j < 16 → Each Q s → Each Q (stepped smaller_first s t)
  unfolding stepped
  step_keeps s t h l each k m =
      set_picks Q (set s t.i (smaller_first.first a b)) t.j (smaller_first.second a b) k two.1 (set_picks Q s t.i (smaller_first.first a b) k two.0 (each k m))
    where
      a : Float
      a = pixel_at s t.i

      b : Float
      b = pixel_at s t.j

      two : Q (smaller_first.first a b) × Q (smaller_first.second a b)
      two =
          ⊎_elim (λ e. (rw e.0 (each t.i h), rw e.1 (each t.j l))) (λ e. (rw e.0 (each t.j l), rw e.1 (each t.i h)))
          (left_or_exchanged a b)

  pub run_keeps : (ts : List Step) → T (within ts) → (s : List Float) → Each Q s → Each Q (run smaller_first ts s)
  unfolding run
  run_keeps [] w s each = each
  run_keeps (t ∷ ts) w s each = let n = step_within t ts w in run_keeps ts n.2 (stepped smaller_first s t) (step_keeps s t n.0 n.1 each)

-- ---- the tests of a row without a NaN
abbrev pub Real : Float → Type 0
Real y = is_nan y ≡ false

map_set : {A B : Type 0} (f : A → B) (s : List A) (i : ℕ) (y : A) → map f (set s i y) ≡ set (map f s) i (f y)
map_set f [] i y = refl
map_set f (x ∷ s) zero y = refl
map_set f (x ∷ s) (suc i) y = rw (map_set f s i y)

module _ (x : Float) where
  abbrev pub not_over : Float → Bool
  not_over y = le y x

  pub at_map : (s : List Float) (k : ℕ) → get_or (map not_over s) k false ≡ le (pixel_at s k) x
  at_map s k = rw (sym nothing) (get_or-map not_over s k nan)
    where
      nothing : not_over nan ≡ false
      nothing = unfold le in refl

  step_tests : (s : List Float) (t : Step) → t.i < 16 → Each Real s → map not_over (stepped smaller_first s t) ≡ stepped true_first (map not_over s) t
  unfolding stepped
  step_tests s t h real =
      let a = pixel_at s t.i in
      let b = pixel_at s t.j in
      let e = exchange_le a b x (real t.i h) in
      map_set not_over (set s t.i (smaller_first.first a b)) t.j (smaller_first.second a b)
      ∙ rw (map_set not_over s t.i (smaller_first.first a b), e.0, e.1, at_map s t.i, at_map s t.j)

  pub run_tests : (ts : List Step) → T (within ts) → (s : List Float) → Each Real s → map not_over (run smaller_first ts s) ≡ run true_first ts (map not_over s)
  unfolding run
  run_tests [] w s real = refl
  run_tests (t ∷ ts) w s real =
      let n = step_within t ts w in
      run_tests ts n.2 (stepped smaller_first s t) (step_keeps Real s t n.0 n.1 real) ∙ rw (step_tests s t n.0 real)
