-- Demand 3, the search: where it applies it writes a covered pair, and no covered pair in either mode has a smaller palette error than the pair
-- written. The errors are finite, so no NaN hides in the comparison. Samples are in 0..1, as entry leaves them, whatever they were.
use mathlib.Core.Path.{◌≡◌, refl, sym, ap, ◌∙◌, subst}
use mathlib.Core.Logic.{◌⊎◌, inl, inr, ⊎_elim}
use mathlib.Core.Bool.{true, false}
use mathlib.Core.List.{List}
use Prim.Native.Nat.{ℕ, ◌*◌, ◌≤◌, ◌<◌}
use native.Mathlib.Nat.{mul_comm}
use native.Mathlib.Omega.{arith}
use lib.Ieee.{Float, nan, inf, fin, up, down, binary32, lt, le, of_bits, add, mul, to_unsigned}
use Rattle.floats.specs.Arithmetic.{◌⊕◌, ◌⊗◌, f0, f2, f255}
use Rattle.floats.specs.Bounds.{Within}
use Rattle.floats.proofs.Tests.{clash}
use Rattle.floats.proofs.Casts.{byte_of_mono, byte_of_le}
use Rattle.floats.proofs.Bounds.{below_inf}
use Rattle.floats.proofs.Monotone.{mul_mono, add_mono}
use Rattle.index_list.specs.Layout.{byte_at}
use Rattle.index_list.proofs.ReadBack.{packed_ends}
use Rattle.end_points.specs.EndPoints.{of_bytes}
use Rattle.block.specs.Block.{InUnit, smallest, largest, min_max}
use Rattle.block.proofs.Extremes.{largest_sample}
use Rattle.palette.specs.declared.Kind.{Kind}
use Rattle.palette.specs.declared.Kind.TheVariants.{Six, Four}
use Rattle.palette.proofs.Finite.{byte_error_within}
use Rattle.coding.specs.declared.Coded.{Coded}
use Rattle.coding.specs.Coding.{ended}
use Rattle.coding.proofs.EitherOne.{smaller_one}
use Rattle.search.specs.Search.{pair_tried, first_max, mins_tried, min_limit, least_max, searched}
use Rattle.search.specs.Covered.{Covered, ends_of, pair_error, pair_bytes, OfPair}
use Rattle.search.proofs.EveryPair.{NotBelow, candidate, pair_is, mins_keep, mins_below, first_le, first_from}

-- ---- at least one pair is covered: (0, 255)
scaled : (x : Float) → x ⊗ f255 ≡ f255 ⊗ x
unfolding mul of_bits
scaled nan = refl
scaled (inf true) = refl
scaled (inf false) = refl
scaled (fin true m e) = rw (mul_comm (m * up e) 255, mul_comm (down e) 1)
scaled (fin false m e) = rw (mul_comm (m * up e) 255, mul_comm (down e) 1)

limit_from_0 : min_limit f0 ≡ 2
unfolding of_bits mul add to_unsigned
limit_from_0 = refl

limit_mono : (x y : Float) → le x y ≡ true → min_limit x ≤ min_limit y
limit_mono x y h =
    rw (scaled x, scaled y)
    (byte_of_mono (f255 ⊗ x ⊕ f2) (f255 ⊗ y ⊕ f2)
    (add_mono binary32 f2 (f255 ⊗ x) (f255 ⊗ y) (unfold of_bits in tt) (mul_mono binary32 f255 x y (unfold of_bits in tt) h)))

module _ (b : List Float) (u : InUnit b) where
  pub covered_some : Covered b 0 255
  covered_some = record {
    min_below = omega (arith, limit_from_0, limit_mono f0 (largest b) (largest_sample b (λ x. le f0 x ≡ true) u.from_0_lem));
    max_from = byte_of_le _;
    apart = omega arith;
    max_to = omega arith;
  }

  -- The errors compared are finite.
  pub search_finite : (kind : Kind) (min max : ℕ) → Covered b min max → Within 256 (pair_error kind b min max)
  unfolding of_bytes
  search_finite Six min max c = byte_error_within Six false b max min (omega (arith, c.max_to)) (omega (arith, c.max_to, c.apart)) u
  search_finite Four min max c = byte_error_within Four false b min max (omega (arith, c.max_to, c.apart)) (omega (arith, c.max_to)) u

  -- ---- what is held at the end
  abbrev start : Coded
  start = record { bytes = 0; error = inf false }

  abbrev found : Coded
  found = mins_tried b (least_max (smallest b)) start (min_limit (largest b))

  found_below : (kind : Kind) (min max : ℕ) → Covered b min max → NotBelow (pair_error kind b min max) found
  found_below kind min max c = mins_below b kind min max start _ _ c.min_below (first_le _ min max c.max_from c.apart) c.max_to

  -- of a covered pair, with its error
  abbrev Found : Coded → Type 0
  Found h = (w : OfPair b h.bytes) × (h.error ≡ pair_error w.kind b w.min w.max)

  found_one : Found found
  found_one =
      ⊎_elim
      (λ e. clash (below_inf 256 _ (search_finite Six 0 255 covered_some)) (subst (NotBelow (pair_error Six b 0 255)) e (found_below Six 0 255 covered_some)))
      (λ f. f)
      (mins_keep b (λ h. (h ≡ start) ⊎ Found h) (least_max (smallest b)) (min_limit (largest b)) mode_tried start (inl refl))
    where
      mode_tried : (h : Coded) (min max : ℕ) → min < min_limit (largest b) → first_max (least_max (smallest b)) min ≤ max → max ≤ 255
          → (h ≡ start) ⊎ Found h → (pair_tried b h min max ≡ start) ⊎ Found (pair_tried b h min max)
      mode_tried h min max l f t p =
          let g = first_from (least_max (smallest b)) min max f in
          let c : Covered b min max = record { min_below = l; max_from = g.0; apart = g.1; max_to = t } in
          let one : (kind : Kind) → Found (candidate b kind min max) =
          λ kind. (record { kind = kind; min = min; max = max; covered = c; bytes = refl }, refl) in
          let six = smaller_one (λ k. (k ≡ start) ⊎ Found k) h (candidate b Six min max) p (inr (one Six)) in
          rw (pair_is b h min max) (smaller_one (λ k. (k ≡ start) ⊎ Found k) _ (candidate b Four min max) six (inr (one Four)))

-- ---- the first two bytes of a block are the pair's, in the order of its mode, so they say which pair and which mode it is
module _ (b : List Float) where
  pair_ends : (kind : Kind) (min max : ℕ) → Covered b min max
      → (byte_at (pair_bytes kind b min max) 0 ≡ (ends_of kind min max).c0) × (byte_at (pair_bytes kind b min max) 1 ≡ (ends_of kind min max).c1)
  unfolding ended of_bytes
  pair_ends Six min max c = packed_ends max min _ (omega (arith, c.max_to)) (omega (arith, c.max_to, c.apart))
  pair_ends Four min max c = packed_ends min max _ (omega (arith, c.max_to, c.apart)) (omega (arith, c.max_to))

  pub written_ends : (n : ℕ) (w : OfPair b n)
      → (byte_at n 0 ≡ (ends_of w.kind w.min w.max).c0) × (byte_at n 1 ≡ (ends_of w.kind w.min w.max).c1)
  written_ends n w =
      let e = pair_ends w.kind w.min w.max w.covered in
      (ap (λ (m : ℕ). byte_at m 0) w.bytes ∙ e.0, ap (λ (m : ℕ). byte_at m 1) w.bytes ∙ e.1)

  ends_error : (k l : Kind) (i j m n : ℕ) → i < j → m < n → (ends_of k i j).c0 ≡ (ends_of l m n).c0 → (ends_of k i j).c1 ≡ (ends_of l m n).c1
      → pair_error k b i j ≡ pair_error l b m n
  unfolding of_bytes
  ends_error Six Six i j m n h k p q = rw (p, q)
  ends_error Six Four i j m n h k p q = absurd (omega arith)
  ends_error Four Six i j m n h k p q = absurd (omega arith)
  ends_error Four Four i j m n h k p q = rw (p, q)

  written_error : (n : ℕ) (v w : OfPair b n) → pair_error v.kind b v.min v.max ≡ pair_error w.kind b w.min w.max
  written_error n v w =
      let e = written_ends n v in
      let f = written_ends n w in
      ends_error v.kind w.kind v.min v.max w.min w.max v.covered.apart w.covered.apart
      (sym e.0 ∙ f.0) (sym e.1 ∙ f.1)

module _ (b : List Float) (u : InUnit b) where
  -- The search writes a covered pair in one of the modes,
  pub search_written : OfPair b (searched b (min_max b))
  unfolding searched min_max
  search_written = (found_one b u).0

  -- and no covered pair in either mode has a smaller palette error than the pair written.
  pub search_none_smaller : (w : OfPair b (searched b (min_max b))) (kind : Kind) (min max : ℕ) → Covered b min max
      → lt (pair_error kind b min max) (pair_error w.kind b w.min w.max) ≡ false
  unfolding search_written
  search_none_smaller w kind min max c =
      let e = (found_one b u).1 ∙ written_error b (searched b (min_max b)) search_written w in
      subst (λ (x : Float). lt (pair_error kind b min max) x ≡ false) e (found_below b u kind min max c)
