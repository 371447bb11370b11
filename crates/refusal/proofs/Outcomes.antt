-- A promise leaves no choice: two outcomes that a call's contract allows, of one call, are equal. `Post` of a call is its contract as the checker
-- reads it, over the arguments, the result, and what lent memory holds at the end.
use denote.Triple.Clauses.{AtExit}
use mathlib.Core.Path.{◌≡◌}
use mathlib.Core.List.{List}
use Prim.Native.Nat.{ℕ}
use contract.Lifetimes.{Lfts}
use borrow.Fn.Kinds.{ParamKind, ResultKind, Out, Dens, res_t, ended_of}

module _ (n : ℕ) (ps : List (ParamKind n)) (r : ResultKind n) (post : Out n ps r) where
  abbrev pub One-answer : Type 0
  One-answer = (κs : Lfts n) (a : Dens κs ps) (x y : (res_t r κs).Denot) (s t : AtExit (ended_of n ps r) κs) → post κs a x s → post κs a y t → x ≡ y

  -- the answer, and what lent memory holds
  abbrev pub One-outcome : (A : Type 0) → ((κs : Lfts n) → (res_t r κs).Denot → AtExit (ended_of n ps r) κs → A) → Type 0
  One-outcome A outcome =
      (κs : Lfts n) (a : Dens κs ps) (x y : (res_t r κs).Denot) (s t : AtExit (ended_of n ps r) κs) → post κs a x s → post κs a y t → outcome κs x s ≡ outcome κs y t
