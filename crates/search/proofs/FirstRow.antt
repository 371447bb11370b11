-- A pair's floor by its first row: no palette error of the pair is below it, in either mode. Floors of max, raised by it anywhere, are floors.
use mathlib.Core.Path.{◌≡◌, refl, sym, ◌∙◌, subst}
use mathlib.Core.Logic.{◌⊎◌, inl, inr, ⊎_elim, dite}
use mathlib.Core.Bool.{Bool, true, false, cond, ◌||◌}
use mathlib.Core.List.{List, ◌++◌}
use Prim.Native.Nat.{ℕ, ◌+◌, ◌<◌, ◌≤◌}
use native.Mathlib.Decide.{ℕ_discrete}
use native.Mathlib.Omega.{arith}
use lib.ListN.{length, get_or, set, take, drop, length-set, length-append, get_or-append}
use lib.Seq.{get_or-set_same, get_or-set_other}
use lib.Ieee.{Float, nan, lt, ne}
use Rattle.floats.specs.Helpers.{lane_max}
use Rattle.floats.proofs.Tests.{clash, either}
use Rattle.floats.proofs.Order.{lt_trans, lt_cotrans, lt_right, ne_self}
use Rattle.values.specs.Values.{value_of}
use Rattle.std.proofs.lemmas.List.{length-drop, length-take-le, get_or-take, get_or-drop}
use Rattle.block.proofs.Fill.{length_tabulate, get_d_tabulate}
use Rattle.end_points.specs.EndPoints.{of_bytes}
use Rattle.palette.specs.declared.Kind.{Kind}
use Rattle.palette.specs.declared.Kind.TheVariants.{Six, Four}
use Rattle.palette.specs.Rows.{first_row_error}
use Rattle.palette.proofs.ErrorFloor.{row_floor_lem}
use Rattle.search.specs.Covered.{pair_error}
use Rattle.search.specs.Floor.{max_floor, max_floors, row_floor, Floors, PartFloors}
use Rattle.search.proofs.PassedOver.{max_floor_lem}

-- ---- the lesser of two, or a NaN
not_below_lesser : (e a c : Float) → (lt e a ≡ false) ⊎ (lt e c ≡ false) → lt e (cond (lt a c || ne a a) a c) ≡ false
not_below_lesser e a c h = go (lt a c) refl (ne a a) refl
  where
    go : (t : Bool) → lt a c ≡ t → (u : Bool) → ne a a ≡ u → lt e (cond (t || u) a c) ≡ false
    go true p u q = ⊎_elim (λ k. k) (λ k. ⊎_elim (λ l. clash (lt_trans e a c l p) k) (λ l. l) (either (lt e a))) h
    go false p true q = ⊎_elim (λ l. clash q (ne_self a ∙ lt_right e a l)) (λ l. l) (either (lt e a))
    go false p false q =
        ⊎_elim
        (λ k. ⊎_elim (λ l. ⊎_elim (λ i. clash i k) (λ i. clash i p) (lt_cotrans e a c (sym (ne_self a) ∙ q) l)) (λ l. l) (either (lt e c)))
        (λ k. k)
        h

not_below_larger : (e a c : Float) → lt e a ≡ false → lt e c ≡ false → lt e (lane_max a c) ≡ false
not_below_larger e a c p q = go (lt c a)
  where
    go : (t : Bool) → lt e (cond t a c) ≡ false
    go true = p
    go false = q

module _ (b : List Float) (min : ℕ) where
  pub pair_row : (max : ℕ) (kind : Kind) → lt (pair_error kind b min max) (row_floor b (value_of min false) (value_of max false)) ≡ false
  unfolding row_floor of_bytes
  pair_row max Six = not_below_lesser _ (first_row_error Six b _ _) (first_row_error Four b _ _) (inl (row_floor_lem Six b (value_of max false) (value_of min false)))
  pair_row max Four = not_below_lesser _ (first_row_error Six b _ _) (first_row_error Four b _ _) (inr (row_floor_lem Four b (value_of min false) (value_of max false)))

  -- ---- as the code raises them
  pub floors_start : Floors b min (max_floors b)
  floors_start = record {
    size = length_tabulate (max_floor b) 0 256;
    each = λ max h l kind. rw get_d_tabulate (max_floor_lem b min max h (omega arith) kind);
  }

  -- n of them from `at` on, at the start of an array of 32
  pub part_start : (at n : ℕ) (rest : List Float) → at + n ≤ 256 → n ≤ 32 → length rest ≡ 32 → PartFloors b min at n (take n (drop at (max_floors b)) ++ drop n rest)
  part_start at n rest l m e = record {
    size = simp (length-append, length-drop, part) (omega arith);
    each = λ i h k kind.
        rw (get_or-append (take n (drop at (max_floors b))) (drop n rest) nan i (omega (arith, part)), get_or-take n (drop at (max_floors b)) i nan h, get_or-drop at (max_floors b) i nan)
        (floors_start.each (at + i) k (omega arith) kind);
  }
    where
      part : length (take n (drop at (max_floors b))) ≡ n
      part = length-take-le n (drop at (max_floors b)) (omega (arith, length-drop at (max_floors b), floors_start.size))

  pub part_raised : (at n : ℕ) (out : List Float) (i : ℕ) (v : Float) → PartFloors b min at n out → i < n → i < 32
      → v ≡ lane_max (get_or out i nan) (row_floor b (value_of min false) (value_of (at + i) false)) → PartFloors b min at n (set out i v)
  part_raised at n out i v f l a e = record {
    size = simp length-set f.size;
    each = λ j h k kind. dite (ℕ_discrete j i) (λ m. own j m h k kind) (λ m. rw (get_or-set_other out i j v nan m) (f.each j h k kind));
  }
    where
      own : (j : ℕ) → j ≡ i → j < n → min < at + j → (kind : Kind) → lt (pair_error kind b min (at + j)) (get_or (set out i v) j nan) ≡ false
      own j m h k kind =
          rw (m, get_or-set_same out i v nan (subst (λ (s : ℕ). i < s) (sym f.size) a), e)
          (not_below_larger _ _ _ (f.each i l (subst (λ (s : ℕ). min < at + s) m k) kind) (pair_row (at + i) kind))
