-- Four values and a sample in 0..1: how far off `closest` says it is, squared, is what it adds to the palette error. `closest` starts from one of 0
-- and 1 and the palette error from both, and of equal distances they keep different ones; equal distances are identical.
use mathlib.Core.Path.{◌≡◌, refl, sym, ◌∙◌}
use mathlib.Core.Logic.{◌⊎◌, inl, inr, ⊎_elim}
use mathlib.Core.Bool.{Bool, true, false, cond}
use mathlib.Core.List.{List}
use Prim.Native.Nat.{ℕ, zero, suc, ◌*◌, ◌≤◌, ◌<◌}
use native.Mathlib.Omega.{arith}
use lib.Dec.{T, lit≤}
use lib.IntN.{pos}
use lib.Seq.{get_or-take}
use lib.Ieee.{Float, nan, inf, fin, binary32, up, down, unlike, round, neg, sum, add, sub, mul, lt, le, eq, fits, is_nan, of_bits}
use lib.Ieee.Fits.{sub-fits, mul-fits}
use Rattle.floats.specs.Arithmetic.{◌⊕◌, ◌⊖◌, ◌⊗◌, squared, f0, half, f1}
use Rattle.floats.specs.Helpers.{abs_of, lane_min}
use Rattle.floats.specs.Bounds.{Within}
use Rattle.floats.proofs.Tests.{clash}
use Rattle.floats.proofs.Order.{lt_of_not, le_of_lt, lt_le_trans, le_trans, not_of_le, le_left, le_refl}
use Rattle.floats.proofs.Signs.{zero_exp, under_zero}
use Rattle.floats.proofs.Monotone.{round_real, add_mono, sub_anti}
use Rattle.floats.proofs.Squares.{Plain, squared_plain, plain_not_below, lane_min_comm}
use Rattle.floats.proofs.Differences.{abs_sub}
use Rattle.floats.proofs.Bounds.{add_within, mul_within, within_real, unit_within}
use Rattle.palette.specs.declared.Kind.TheVariants.{Four}
use Rattle.palette.specs.declared.inter4.Nearest.{Nearest}
use Rattle.palette.specs.Palettes.{entry, fifth1, fifth2, fifth3, fifth4, colors, values4, values_of}
use Rattle.palette.specs.PaletteError.{distance, least_to, least_square_to, nearer_square, miss}
use Rattle.palette.specs.Closest.{default_of, nearer_of, nearest_to, closest4}
use Rattle.palette.proofs.LeastSquare.{miss_is}
use Rattle.palette.proofs.EightValues.{default_distances}
use Rattle.palette.proofs.Outside.{closest4_default}

-- ---- the start: of 0 and 1 the nearer
default_nearer : (x : Float) → is_nan x ≡ false → (default_of x).error ≡ lane_min x (f1 ⊖ x)
unfolding default_of
default_nearer x r = go (le half x) refl
  where
    halves : f1 ⊖ half ≡ half
    halves = unfold sub add neg sum round of_bits in refl

    go : (t : Bool) → le half x ≡ t → cond t (f1 ⊖ x) x ≡ lane_min x (f1 ⊖ x)
    go true e = rw (not_of_le (f1 ⊖ x) x (le_trans (f1 ⊖ x) half x (rw halves at (sub_anti binary32 f1 half x (unfold of_bits in tt) e)) e)) refl
    go false e =
        let l : lt x half ≡ true = lt_of_not x half r (unfold is_nan of_bits in refl) e in
        rw (lt_le_trans x half (f1 ⊖ x) l (rw halves at (sub_anti binary32 f1 x half (unfold of_bits in tt) (le_of_lt x half l)))) refl

-- ---- distances: what f32 holds, not negative and no NaN
record Size (x : Float) : Type 0 where
  held : T (fits binary32 x)
  plain : Plain x
  real : is_nan x ≡ false

smaller_size : (x y : Float) → Size x → Size y → Size (lane_min x y)
smaller_size x y p q = go (lt x y)
  where
    go : (t : Bool) → Size (cond t x y)
    go true = p
    go false = q

abs_size : (x : Float) → T (fits binary32 x) → is_nan x ≡ false → Size (abs_of x)
unfolding fits is_nan
abs_size nan f r = clash refl r
abs_size (inf s) f r = record { held = tt; plain = refl; real = refl }
abs_size (fin s zero e) f r = record { held = f; plain = refl; real = refl }
abs_size (fin s (suc m) e) f r = record { held = f; plain = refl; real = refl }

sub_real : (y x : Float) → is_nan y ≡ false → Within 1 x → is_nan (y ⊖ x) ≡ false
sub_real y nan r w = absurd w
sub_real y (inf t) r w = absurd w
sub_real y (fin t n d) r w = le_left _ (y ⊖ fin t n d) (unfold sub neg in add_mono binary32 (neg (fin t n d)) y y tt (le_refl y r))

square_real : (x : Float) → is_nan x ≡ false → is_nan (squared x) ≡ false
unfolding mul
square_real nan r = unfold is_nan in clash refl r
square_real (inf s) r = unfold is_nan in refl
square_real (fin s m e) r = round_real binary32 (unlike s s) (m * up e * (m * up e)) (down e * down e)

-- ---- one colour
nearer_error : (n : Nearest) (k : ℕ) (color x : Float) → (nearer_of n k color x).error ≡ lane_min (abs_of (x ⊖ color)) n.error
unfolding nearer_of
nearer_error n k color x = go (lt (abs_of (x ⊖ color)) n.error)
  where
    go : (t : Bool) → (cond t (record { index = k; error = abs_of (x ⊖ color) }) n).error ≡ cond t (abs_of (x ⊖ color)) n.error
    go true = refl
    go false = refl

-- ---- all, for two ends that leave no NaN among the eight values
abbrev pub Real : Float → Float → Type 0
Real c0 c1 = (k : ℕ) → k < 8 → is_nan (entry (values_of Four c0 c1) k) ≡ false

module _ (c0 c1 x : Float) (real : Real c0 c1) (w : Within 1 x) where
  abbrev v : List Float
  v = values_of Four c0 c1

  off_real : (k : ℕ) → k < 8 → is_nan (entry v k ⊖ x) ≡ false
  off_real k h = sub_real (entry v k) x (real k h) w

  distance_size : (k : ℕ) → k < 8 → Size (distance v x k)
  distance_size k h = abs_size (entry v k ⊖ x) (sub-fits binary32 (entry v k) x) (off_real k h)

  least_size : (k : ℕ) → k < 8 → Size (least_to v x k)
  unfolding least_to
  least_size zero h = distance_size 0 h
  least_size (suc k) h = smaller_size (least_to v x k) (distance v x (suc k)) (least_size k (omega arith)) (distance_size (suc k) h)

  colour : (k : ℕ) → k < 6 → entry v (suc (suc k)) ≡ entry (colors c0 c1) k
  unfolding values_of values4
  colour k l = get_or-take 6 (colors c0 c1) k nan l

  -- with the sign clear the errors themselves are the same
  nearest_least : T (fits binary32 x) → Plain x → le x f1 ≡ true → (k : ℕ) → k ≤ 6 → (nearest_to (colors c0 c1) x k).error ≡ least_to v x (suc k)
  unfolding nearest_to
  nearest_least f s h zero l = default_nearer x (le_left x f1 h) ∙ sym (default_distances c0 c1 x f s h)
  nearest_least f s h (suc k) l =
      let d = distance_size (suc (suc k)) (omega arith) in
      let m = least_size (suc k) (omega arith) in
      nearer_error (nearest_to (colors c0 c1) x k) k (entry (colors c0 c1) k) x
      ∙ rw (nearest_least f s h k (omega arith), abs_sub x (entry (colors c0 c1) k), ← colour k (omega arith))
      (unfold least_to in lane_min_comm (distance v x (suc (suc k))) (least_to v x (suc k)) d.held m.held d.plain m.plain d.real m.real)

  -- at -0, which `closest` answers as it is, both are 0
  zero_square : x ≡ fin true 0 (pos 0) → (k : ℕ) → k < 8 → least_square_to v x k ≡ f0
  unfolding least_square_to nearer_square
  zero_square e zero h = rw e (unfold values_of values4 sub add neg sum round mul of_bits in refl)
  zero_square e (suc k) h =
      let d = entry v (suc k) ⊖ x in
      rw (zero_square e k (omega arith))
      (lane_min_comm f0 (squared d) (unfold fits of_bits in tt) (mul-fits binary32 d d) (unfold of_bits in refl) (squared_plain d) (unfold is_nan of_bits in refl) (square_real d (off_real (suc k) h))
      ∙ rw (plain_not_below (squared d) (squared_plain d)) refl)

closest4_zero : (c : List Float) → squared (closest4 c (fin true 0 (pos 0))).error ≡ f0
closest4_zero c = rw (closest4_default c (fin true 0 (pos 0)) (unfold default_of le lt eq of_bits in refl)) (unfold default_of le lt eq mul round of_bits in refl)

-- the sign is clear, or x is -0
sign : (x : Float) → T (fits binary32 x) → le f0 x ≡ true → Plain x ⊎ (x ≡ fin true 0 (pos 0))
sign nan f h = inl tt
sign (inf true) f h = clash h (unfold le lt eq of_bits in refl)
sign (inf false) f h = inl refl
sign (fin false m e) f h = inl refl
sign (fin true zero e) f h = inr (rw (zero_exp e (unfold fits in f)) refl)
sign (fin true (suc m) e) f h = clash (under_zero m e) (not_of_le f0 (fin true (suc m) e) h)

pub closest4_miss : (c0 c1 x : Float) → Real c0 c1 → T (fits binary32 x) → le f0 x ≡ true → le x f1 ≡ true → squared (closest4 (colors c0 c1) x).error ≡ miss (values_of Four c0 c1) x
closest4_miss c0 c1 x real f p q = ⊎_elim clear minus (sign x f p)
  where
    w : Within 1 x
    w = unit_within x p q

    clear : Plain x → squared (closest4 (colors c0 c1) x).error ≡ miss (values_of Four c0 c1) x
    clear s = unfold closest4 miss in rw (nearest_least c0 c1 x real w f s q 6 (omega arith)) refl

    minus : x ≡ fin true 0 (pos 0) → squared (closest4 (colors c0 c1) x).error ≡ miss (values_of Four c0 c1) x
    minus e = rw (miss_is (values_of Four c0 c1) x, zero_square c0 c1 x real w e 7 (omega arith), e) (closest4_zero (colors c0 c1))

-- ---- of ends in -1..1 no value is a NaN
module _ (c0 c1 : Float) (h0 : Within 1 c0) (h1 : Within 1 c1) where
  mixed : (q r : Float) → Within 1 q → Within 1 r → is_nan (c0 ⊗ q ⊕ c1 ⊗ r) ≡ false
  mixed q r Q R = within_real 2 _ (add_within binary32 1 1 (c0 ⊗ q) (c1 ⊗ r) (lit≤ tt) (mul_within binary32 1 1 c0 q (lit≤ tt) h0 Q) (mul_within binary32 1 1 c1 r (lit≤ tt) h1 R))

  pub values_real : Real c0 c1
  unfolding values_of values4 colors of_bits
  values_real zero h = unfold is_nan in refl
  values_real (suc zero) h = unfold is_nan in refl
  values_real (suc (suc zero)) h = within_real 1 c0 h0
  values_real (suc (suc (suc zero))) h = within_real 1 c1 h1
  values_real (suc (suc (suc (suc zero)))) h = mixed fifth4 fifth1 (lit≤ tt) (lit≤ tt)
  values_real (suc (suc (suc (suc (suc zero))))) h = mixed fifth3 fifth2 (lit≤ tt) (lit≤ tt)
  values_real (suc (suc (suc (suc (suc (suc zero)))))) h = mixed fifth2 fifth3 (lit≤ tt) (lit≤ tt)
  values_real (suc (suc (suc (suc (suc (suc (suc zero))))))) h = mixed fifth1 fifth4 (lit≤ tt) (lit≤ tt)
  values_real (suc (suc (suc (suc (suc (suc (suc (suc k)))))))) h = absurd (omega arith)
