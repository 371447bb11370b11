-- How the sixteen are put in order: Batcher's merge exchange, in the form of Knuth's Algorithm 5.2.2M. Its 63 steps are the same for every block.
-- Nobody has to believe this file. The promise is `placed` of Sorted.antt, which says nothing of steps; that place k of `sorted b` is `placed b k`,
-- but for the sign of a zero, is `sorted_place` in proofs/.
use Rattle.std.specs.Prelude.{List, [], ◌∷◌, ◌++◌, cond, ◌≡◌, ℕ, zero, suc, ◌+◌, ◌-◌, ◌/◌, ◌%◌, ◌<◌, T, eqb, get_or, set, Float}
use Rattle.std.specs.Float.{nan, binary32}
use Rattle.std.specs.Float.Ieee.{lt, eq, fits}
use Rattle.floats.specs.Arithmetic.{f0, f1, f2}
use Rattle.floats.specs.Helpers.{lane_min}
use Rattle.block.specs.Samples.{pixel_at, per_pixel}

-- What a step makes of two values, for its first place and for its second, and what a place outside the row reads as: over any values, so that
-- one law carries floats over to tests.
pub record Choice (A : Type 0) : Type 1 where
  pub first : A → A → A
  pub second : A → A → A
  pub outside : A

-- the smaller of two floats first, and both as they stand where the second is not below
abbrev pub smaller_first : Choice Float
smaller_first = record { first = λ a b. cond (lt b a) b a; second = λ a b. cond (lt b a) a b; outside = nan }

-- places i and j
pub record Step : Type 0 where
  pub i : ℕ
  pub j : ℕ

unfoldable pub stepped : {A : Type 0} → Choice A → List A → Step → List A
stepped o s t =
    let a = get_or s t.i o.outside in
    let b = get_or s t.j o.outside in
    set (set s t.i (o.first a b)) t.j (o.second a b)

unfoldable pub run : {A : Type 0} → Choice A → List Step → List A → List A
run o [] s = s
run o (t ∷ ts) s = run o ts (stepped o s t)

-- Of n places from i on those of which i / p is even or odd, as r says, each with the place d further.
unfoldable pub steps_from : ℕ → ℕ → ℕ → ℕ → ℕ → List Step
steps_from p r d i zero = []
steps_from p r d i (suc n) = cond (eqb (i / p % 2) r) (record { i = i; j = i + d } ∷ steps_from p r d (suc i) n) (steps_from p r d (suc i) n)

abbrev pub pass : ℕ → ℕ → ℕ → List Step
pass p r d = steps_from p r d 0 (16 - d)

-- After these steps every fourth value is in order,
abbrev pub fourths : List Step
fourths = pass 8 0 8 ++ pass 4 0 4 ++ pass 4 1 4

-- after these every other one,
abbrev pub halves : List Step
halves = pass 2 0 2 ++ pass 2 1 6 ++ pass 2 1 2

-- and after these all.
abbrev pub whole : List Step
whole = pass 1 0 1 ++ pass 1 1 7 ++ pass 1 1 3 ++ pass 1 1 1

abbrev pub steps : List Step
steps = fourths ++ halves ++ whole

-- The sixteen as they enter: 2 for a NaN and for what is above it. `placed` has 1 for both, which a place that is looked up is held to.
unfoldable pub capped : List Float → List Float
capped b = per_pixel (λ i. lane_min (pixel_at b i) f2)

unfoldable pub sorted : List Float → List Float
sorted b = run smaller_first steps (capped b)

-- a place that is looked up
abbrev pub held_to1 : Float → Float
held_to1 x = lane_min x f1

-- s is that, and its values are f32: two of them that are equal and no zeros are the same datum.
pub record InOrder (b s : List Float) : Type 0 where
  pub is_sorted : s ≡ sorted b
  pub fit : (i : ℕ) → i < 16 → T (fits binary32 (pixel_at (capped b) i))

-- The first zero among the first i samples, where there is one: `placed` has it for zeros of both signs.
unfoldable pub first_zero_to : List Float → ℕ → Float
first_zero_to b zero = f1
first_zero_to b (suc i) = cond (eq (first_zero_to b i) f0) (first_zero_to b i) (pixel_at b i)

abbrev pub first_zero : List Float → Float
first_zero b = first_zero_to b 16
