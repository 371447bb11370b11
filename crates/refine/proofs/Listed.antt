-- The candidates of a round and of high rounding are those that the Rust lists, in its order.
use mathlib.Core.Path.{◌≡◌, refl}
use mathlib.Core.Bool.{Bool}
use mathlib.Core.List.{List}
use lib.Ieee.{Float}
use Rattle.floats.specs.declared.Pair.{Pair}
use Rattle.palette.specs.declared.Kind.{Kind}
use Rattle.refine.specs.declared.rounds.Held.{Held}
use Rattle.refine.specs.Rounds.{tried_to, round}
use Rattle.refine.specs.Refining.{high_to}
use Rattle.refine.specs.Candidates.{round_listed, high_listed}

module _ (kind : Kind) (b : List Float) where
  pub round_listed_lem : (start : Held) (step : Float) → round kind b start step ≡ round_listed kind b start step
  unfolding tried_to
  round_listed_lem start step = refl

  pub high_listed_lem : (snorm : Bool) (p : Pair) → high_to kind b snorm p 3 ≡ high_listed kind b snorm p
  unfolding high_to
  high_listed_lem snorm p = refl
