-- The steps of the sort, counted and looked at one by one, and what they come to.
use mathlib.Core.Path.{refl}
use mathlib.Core.Bool.{Bool}
use Prim.Native.Nat.{ℕ}
use lib.Dec.{T, ltb, ltb→lt}
use Rattle.floats.proofs.Table.{both, both_left, both_right, all, at}
use Rattle.compress.specs.Network.{steps_from}
use Rattle.compress.proofs.Steps.{step_exchanges}
use Rattle.compress.proofs.SortedPlaces.{sorted_le, sorted_place, sorted_ordered}
use Rattle.demands.specs.SameSteps.{step_at, SameSteps}

two_places : ℕ → Bool
two_places n = both (ltb (step_at n).i (step_at n).j) (ltb (step_at n).j 16)

every_two : T (all two_places 63)
unfolding two_places steps_from
every_two = tt

pub same_steps : SameSteps
unfolding two_places steps_from
same_steps = record {
  number = refl;
  two_places_lem = λ n h.
      let t = at two_places 63 every_two n h in
      (ltb→lt _ _ (both_left (ltb (step_at n).i (step_at n).j) (ltb (step_at n).j 16) t), ltb→lt _ _ (both_right (ltb (step_at n).i (step_at n).j) (ltb (step_at n).j 16) t));
  exchange = step_exchanges;
  in_order = sorted_ordered;
  places = sorted_le;
  place = λ b s k h o. sorted_place b k h o;
}
