-- The definitions as the code walks through them.
use mathlib.Core.Path.{◌≡◌, subst}
use mathlib.Core.List.{List}
use Prim.Native.Nat.{ℕ, zero, suc, ◌+◌, ◌-◌, ◌≤◌}
use native.Mathlib.Nat.{add-zero, add-suc, add_assoc}
use native.Mathlib.Numerals.{add-one}
use native.Mathlib.Omega.{arith}
use lib.Ieee.{Float}
use Rattle.coding.specs.declared.Coded.{Coded}
use Rattle.search.specs.Search.{pair_tried, maxes_tried, first_max, mins_tried}

module _ (b : List Float) where
  -- one value of max more
  pub maxes_more : (best : Coded) (min at n : ℕ) → maxes_tried b best min at (n + 1) ≡ pair_tried b (maxes_tried b best min at n) min (at + n)
  unfolding maxes_tried
  maxes_more best min at n = rw (add-one n)

  -- n values of max after m
  pub maxes_joined : (best : Coded) (min first m n : ℕ) → maxes_tried b (maxes_tried b best min first m) min (first + m) n ≡ maxes_tried b best min first (m + n)
  unfolding maxes_tried
  maxes_joined best min first m zero = rw (add-zero m)
  maxes_joined best min first m (suc n) = rw (add-suc m n, maxes_joined best min first m n, add_assoc first m n)

  -- the same with `at` for where they begin
  pub maxes_further : (best : Coded) (min first at n : ℕ) → first ≤ at
      → maxes_tried b (maxes_tried b best min first (at - first)) min at n ≡ maxes_tried b best min first (at + n - first)
  maxes_further best min first at n h =
      let start : first + (at - first) ≡ at = omega arith in
      let count : at + n - first ≡ at - first + n = omega arith in
      rw count (subst (λ (k : ℕ). maxes_tried b (maxes_tried b best min first (at - first)) min k n ≡ maxes_tried b best min first (at - first + n)) start (maxes_joined best min first (at - first) n))

  -- one value of min more
  pub mins_more : (least : ℕ) (best : Coded) (n m : ℕ) → m ≡ suc n → mins_tried b least best m ≡ maxes_tried b (mins_tried b least best n) n (first_max least n) (256 - first_max least n)
  unfolding mins_tried
  mins_more least best n m e = rw e
