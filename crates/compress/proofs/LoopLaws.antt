-- The walk to the first move that fails is the Rust's loop, which notes such a move and goes on: nothing else has changed by then, so that the same
-- side is next, and the loop breaks.
use mathlib.Core.Path.{◌≡◌, refl, ap}
use mathlib.Core.Bool.{Bool, true, false, cond}
use mathlib.Core.List.{List}
use Prim.Native.Nat.{ℕ, zero, suc, ◌+◌, ◌-◌}
use native.Mathlib.Nat.{add-zero, sub-zero}
use lib.Dec.{ltb, leb}
use lib.Ieee.{Float, lt}
use Rattle.floats.proofs.Tests.{leb_not_ltb}
use Rattle.palette.specs.declared.Kind.TheVariants.{Four}
use Rattle.refine.specs.declared.rounds.Held.{Held}
use Rattle.refine.specs.Rounds.{held}
use Rattle.compress.specs.Sorted.{placed}
use Rattle.compress.specs.Inter4.{upward, candidate, walked}
use Rattle.compress.specs.LastMove.{LastMove, None, Min, Max, Loop, move_min, move_max, looped, held_in}

stay : (t : Bool) (s : Loop) → cond t s s ≡ s
stay true s = refl
stay false s = refl

-- the loop's variables, where it holds h
abbrev at : Held → ℕ → ℕ → LastMove → Loop
at h low high l = record { min = h.min; max = h.max; error = h.error; min_index = low; max_index = high; last_failed_move = l }

module _ (b : List Float) where
  -- ---- the side that failed is next again
  stays_min : (n : ℕ) (s : Loop) → upward (held_in s) ≡ true → s.last_failed_move ≡ Min → looped b n s ≡ s
  unfolding looped
  stays_min zero s u e = refl
  stays_min (suc n) s u e = rw (u, e) (stay (leb s.max_index s.min_index) _)

  stays_max : (n : ℕ) (s : Loop) → upward (held_in s) ≡ false → s.last_failed_move ≡ Max → looped b n s ≡ s
  unfolding looped
  stays_max zero s u e = refl
  stays_max (suc n) s u e = rw (u, e) (stay (leb s.max_index s.min_index) _)

  -- ---- one turn, where the rest of the loop is a walk: a move, or a failure that changes nothing
  abbrev AsWalked : ℕ → Loop → Type 0
  AsWalked n s = held_in (looped b n s) ≡ walked b n (held_in s) s.min_index s.max_index

  module _ (n : ℕ) (again : (s : Loop) → s.last_failed_move ≡ None → AsWalked n s) where
    one_turn : (t : Bool) (to from : Loop) → to.last_failed_move ≡ None → looped b n from ≡ from
        → held_in (looped b n (cond t to from)) ≡ cond t (walked b n (held_in to) to.min_index to.max_index) (held_in from)
    one_turn true to from p q = again to p
    one_turn false to from p q = ap held_in q

    turn : (s : Loop) → s.last_failed_move ≡ None → (t : Bool) → ltb s.min_index s.max_index ≡ t → (u : Bool) → upward (held_in s) ≡ u → AsWalked (suc n) s
    unfolding looped walked candidate move_min move_max held
    turn s e false o u k = rw (o, ← leb_not_ltb s.max_index s.min_index, o) refl
    turn s e true o true k =
        let h = held Four b (placed b (s.min_index + 1)) s.max in
        rw (o, ← leb_not_ltb s.max_index s.min_index, o, k, e, sub-zero)
        (one_turn (lt h.error s.error) (at h (s.min_index + 1) s.max_index None) (at (held_in s) s.min_index s.max_index Min) refl (stays_min n _ k refl))
    turn s e true o false k =
        let h = held Four b s.min (placed b (s.max_index - 1)) in
        rw (o, ← leb_not_ltb s.max_index s.min_index, o, k, e, add-zero)
        (one_turn (lt h.error s.error) (at h s.min_index (s.max_index - 1) None) (at (held_in s) s.min_index s.max_index Max) refl (stays_max n _ k refl))

  pub walked_is_loop : (n : ℕ) (s : Loop) → s.last_failed_move ≡ None → held_in (looped b n s) ≡ walked b n (held_in s) s.min_index s.max_index
  unfolding looped walked
  walked_is_loop zero s e = refl
  walked_is_loop (suc n) s e = turn n (walked_is_loop n) s e (ltb s.min_index s.max_index) refl (upward (held_in s)) refl
