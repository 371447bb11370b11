-- The bound of demand 2: every decoded float is within 1 / 2,097,152 of its exact fraction, for every two bytes and every index, in both
-- formats.
use mathlib.Core.Path.{◌≡◌, refl, sym, ap, ap₂, ◌∙◌, subst}
use mathlib.Core.Bool.{Bool, true, false, cond}
use Prim.Native.Nat.{ℕ, zero, suc, ◌+◌, ◌*◌, ◌^◌, ◌≤◌, ◌<◌}
use native.Mathlib.Nat.{le_trans, le_of_eq, mul_comm, mul_assoc, mul_left_comm, mul-zero, zero-mul, mul-add, add-mul, mul-le-mul_right}
use native.Mathlib.Omega.{arith}
use lib.Dec.{lit≤}
use lib.Ieee.{Float, binary32, to_bits, of_bits}
use lib.Ieee.Bits.{of_bits-fits}
use Rattle.floats.specs.Arithmetic.{◌⊕◌, ◌⊗◌, f0, f1}
use Rattle.floats.proofs.Rounding.{Off}
use Rattle.values.specs.Values.{steps, level_of, value_of}
use Rattle.index_list.specs.Layout.{byte_at}
use Rattle.block.specs.Samples.{pixel_at}
use Rattle.palette.specs.Palettes.{entry, fifth1, fifth2, fifth3, fifth4, inter6_palette, blended, colors}
use Rattle.decode.specs.Meaning.{is_six, six_values, table_of, value_at, block_index, decoded}
use Rattle.decode.specs.Exact.{nearness, parts_of, exact_four, exact_num, exact_den, magnitude, Close}
use Rattle.decode.proofs.Laws.{decoded_at, byte_lt, index_lt}
use Rattle.decode.proofs.Bits.{to_bits_units}
use Rattle.decode.proofs.Ends.{Near, End, end_at, ends_order, below_level}
use Rattle.decode.proofs.Blends.{times, six_blend, Fifth, one_fifth, two_fifths, three_fifths, four_fifths, four_blend}

-- x is num / den up to 2 ^ 128 units, which are 1 / 2,097,152
abbrev pub Bounded : Float → ℕ → ℕ → Type 0
Bounded x num den = Near x den (num * 2 ^ 149) (den * 2 ^ 128)

-- ---- from the ends' floats to what they stand for: a and b units are n0 / d and n1 / d up to e, and r units are m parts of a and k parts of b,
-- out of w, up to E
parts : (w m k d r a b n0 n1 u e E : ℕ) → m + k ≡ w → Off (w * r) (m * a + k * b) E → Off (d * a) (n0 * u) e → Off (d * b) (n1 * u) e
    → Off (w * d * r) ((m * n0 + k * n1) * u) (d * E + w * e)
parts w m k d r a b n0 n1 u e E s o p q =
    let x : Off (d * (w * r)) (d * (m * a + k * b)) (d * E) = times d o in
    let y : Off (m * (d * a)) (m * (n0 * u)) (m * e) = times m p in
    let z : Off (k * (d * b)) (k * (n1 * u)) (k * e) = times k q in
    let f : d * (w * r) ≡ w * d * r = simp (mul_assoc, mul_left_comm) in
    let g : m * (d * a) + k * (d * b) ≡ d * (m * a + k * b) = ap₂ ◌+◌ (mul_left_comm m d a) (mul_left_comm k d b) ∙ sym (mul-add d (m * a) (k * b)) in
    let h : m * (n0 * u) + k * (n1 * u) ≡ (m * n0 + k * n1) * u = ap₂ ◌+◌ (sym (mul_assoc m n0 u)) (sym (mul_assoc k n1 u)) ∙ sym (add-mul (m * n0) (k * n1) u) in
    let i : m * e + k * e ≡ w * e = sym (add-mul m k e) ∙ ap (λ (z : ℕ). z * e) s in
    omega arith

-- c * t of a blend and 2 * t of each end are together at most 32 * t, which is the bound
room : (t w d c : ℕ) → c + 2 * w ≤ 32 * w → d * (c * t) + w * (d * (2 * t)) ≤ w * d * (32 * t)
room t w d c h =
    le_trans (le_of_eq (ap₂ ◌+◌ (mul_left_comm d c t) (simp (mul_assoc, mul_comm, mul_left_comm)) ∙ sym (add-mul c (2 * w) (d * t))))
    (le_trans (mul-le-mul_right (d * t) h) (le_of_eq (simp (mul_assoc, mul_comm, mul_left_comm))))

widen : {x y e e' : ℕ} → e ≤ e' → Off x y e → Off x y e'
widen h o = omega arith

module _ (d n0 n1 : ℕ) (x y : Float) (X : End x d n0) (Y : End y d n1) where
  mixed : (w m k c : ℕ) (z : Float) → c + 2 * w ≤ 32 * w → m + k ≡ w → Near z w (m * X.near.r + k * Y.near.r) (c * 2 ^ 123) → Bounded z (m * n0 + k * n1) (w * d)
  mixed w m k c z h s o = record {
    r = o.r;
    ok = o.ok;
    val = o.val;
    off = widen (room (2 ^ 123) w d c h)
        (parts w m k d o.r X.near.r Y.near.r n0 n1 (2 ^ 149) (d * (2 * 2 ^ 123)) (c * 2 ^ 123) s o.off X.near.off Y.near.off);
  }

  -- ---- an end itself is all parts of one
  first_off : (w a b : ℕ) → Off (w * a) (w * a + 0 * b) 0
  first_off w a b = omega arith

  second_off : (w a b : ℕ) → Off (w * b) (0 * a + w * b) 0
  second_off w a b = omega arith

  first : (w : ℕ) → 0 + 2 * w ≤ 32 * w → w + 0 ≡ w → Bounded x (w * n0) (w * d)
  first w h s =
      subst (λ (n : ℕ). Bounded x n (w * d)) (alone (w * n0) n1)
      (mixed w w 0 0 x h s (record { r = X.near.r; ok = X.near.ok; val = X.near.val; off = first_off w X.near.r Y.near.r }))
    where
      alone : (m n : ℕ) → m + 0 * n ≡ m
      alone m n = omega arith

  second : (w : ℕ) → 0 + 2 * w ≤ 32 * w → 0 + w ≡ w → Bounded y (w * n1) (w * d)
  second w h s =
      subst (λ (n : ℕ). Bounded y n (w * d)) (alone (w * n1) n0)
      (mixed w 0 w 0 y h s (record { r = Y.near.r; ok = Y.near.ok; val = Y.near.val; off = second_off w X.near.r Y.near.r }))
    where
      alone : (m n : ℕ) → 0 * n + m ≡ m
      alone m n = omega arith

  -- ---- six values
  sevenths : Y.near.r ≤ X.near.r → (m k : ℕ) → m ≤ 6 → m + k ≡ 7 → Bounded (blended (inter6_palette x y) m) (m * n0 + k * n1) (7 * d)
  sevenths l m k M s = mixed 7 m k 132 (blended (inter6_palette x y) m) (lit≤ tt) s (six_blend x y X.near.r Y.near.r m k X.near.val Y.near.val l X.top M s)

  six_bounded : Y.near.r ≤ X.near.r → (k : ℕ) → k < 8 → Bounded (entry (six_values x y) k) (parts_of 7 n0 n1 k) (7 * d)
  unfolding six_values
  six_bounded l zero h = first 7 (lit≤ tt) refl
  six_bounded l (suc zero) h = second 7 (lit≤ tt) refl
  six_bounded l (suc (suc zero)) h = sevenths l 6 1 (lit≤ tt) refl
  six_bounded l (suc (suc (suc zero))) h = sevenths l 5 2 (lit≤ tt) refl
  six_bounded l (suc (suc (suc (suc zero)))) h = sevenths l 4 3 (lit≤ tt) refl
  six_bounded l (suc (suc (suc (suc (suc zero))))) h = sevenths l 3 4 (lit≤ tt) refl
  six_bounded l (suc (suc (suc (suc (suc (suc zero)))))) h = sevenths l 2 5 (lit≤ tt) refl
  six_bounded l (suc (suc (suc (suc (suc (suc (suc zero))))))) h = sevenths l 1 6 (lit≤ tt) refl
  six_bounded l (suc (suc (suc (suc (suc (suc (suc (suc k)))))))) h = absurd (omega arith)

  -- ---- four values
  fifths : (v w : Float) (m k : ℕ) → Fifth v m → Fifth w k → m + k ≡ 5 → Bounded (x ⊗ v ⊕ y ⊗ w) (m * n0 + k * n1) (5 * d)
  fifths v w m k F G s = mixed 5 m k 56 (x ⊗ v ⊕ y ⊗ w) (lit≤ tt) s (four_blend x y v w X.near.r Y.near.r m k F G X.near.val Y.near.val X.top Y.top)

  zero_bounded : Bounded f0 0 (5 * d)
  unfolding of_bits
  zero_bounded = record { r = 0; ok = of_bits-fits binary32 0; val = (refl, refl); off = none (5 * d) (2 ^ 149) (5 * d * 2 ^ 128) }
    where
      none : (d u e : ℕ) → Off (d * 0) (0 * u) e
      none d u e =
          let p : d * 0 ≡ 0 = mul-zero d in
          let q : 0 * u ≡ 0 = zero-mul u in
          omega arith

  one_bounded : Bounded f1 (5 * d) (5 * d)
  unfolding of_bits
  one_bounded = record { r = 2 ^ 149; ok = of_bits-fits binary32 0x3f80_0000; val = (refl, refl); off = none (5 * d * 2 ^ 149) (5 * d * 2 ^ 128) }
    where
      none : (x e : ℕ) → Off x x e
      none x e = omega arith

  four_bounded : (k : ℕ) → k < 8 → Bounded (entry (colors x y) k) (exact_four d n0 n1 k) (5 * d)
  unfolding colors
  four_bounded zero h = first 5 (lit≤ tt) refl
  four_bounded (suc zero) h = second 5 (lit≤ tt) refl
  four_bounded (suc (suc zero)) h = fifths fifth4 fifth1 4 1 four_fifths one_fifth refl
  four_bounded (suc (suc (suc zero))) h = fifths fifth3 fifth2 3 2 three_fifths two_fifths refl
  four_bounded (suc (suc (suc (suc zero)))) h = fifths fifth2 fifth3 2 3 two_fifths three_fifths refl
  four_bounded (suc (suc (suc (suc (suc zero))))) h = fifths fifth1 fifth4 1 4 one_fifth four_fifths refl
  four_bounded (suc (suc (suc (suc (suc (suc zero)))))) h = zero_bounded
  four_bounded (suc (suc (suc (suc (suc (suc (suc zero))))))) h = one_bounded
  four_bounded (suc (suc (suc (suc (suc (suc (suc (suc k)))))))) h = absurd (omega arith)

-- ---- every value that two bytes can stand for
module _ (snorm : Bool) (c0 c1 k : ℕ) (H0 : c0 < 256) (H1 : c1 < 256) (K : k < 8) where
  abbrev d : ℕ
  d = steps snorm

  abbrev n0 : ℕ
  n0 = level_of c0 snorm

  abbrev n1 : ℕ
  n1 = level_of c1 snorm

  abbrev x : Float
  x = value_of c0 snorm

  abbrev y : Float
  y = value_of c1 snorm

  pub six_at : is_six c0 c1 snorm ≡ true → Bounded (entry (six_values x y) k) (parts_of 7 n0 n1 k) (7 * d)
  six_at e =
      let X = end_at snorm c0 H0 in
      let Y = end_at snorm c1 H1 in
      six_bounded d n0 n1 x y X Y (ends_order snorm n1 n0 (below_level snorm c1 c0 H1 H0 e).0 X Y) k K

  pub value_bounded : Bounded (value_at snorm c0 c1 k) (exact_num snorm c0 c1 k) (exact_den snorm c0 c1)
  unfolding table_of exact_num exact_den
  value_bounded = go (is_six c0 c1 snorm) refl
    where
      go : (six : Bool) → is_six c0 c1 snorm ≡ six
          → Bounded (entry (cond six (six_values x y) (colors x y)) k) (cond six (parts_of 7 n0 n1 k) (exact_four d n0 n1 k)) (cond six 7 5 * d)
      go true e = six_at e
      go false e = four_bounded d n0 n1 x y (end_at snorm c0 H0) (end_at snorm c1 H1) k K

-- ---- by the float's bits
close : (x : Float) (num den : ℕ) → Bounded x num den → Close x num den
close x num den h =
    let b = to_bits_units x h.r h.ok h.val in
    let o = subst (λ (r : ℕ). Off (den * r) (num * 2 ^ 149) (den * 2 ^ 128)) (sym b.1) h.off in
    let s = apart (2 ^ 128) (magnitude (to_bits binary32 x)) num den o in
    record { sign = b.0; above = s.0; under = s.1 }
  where
    apart : (u r num den : ℕ) → Off (den * r) (num * (nearness * u)) (den * u)
        → (nearness * (r * den) ≤ nearness * (num * (nearness * u)) + nearness * u * den) × (nearness * (num * (nearness * u)) ≤ nearness * (r * den) + nearness * u * den)
    apart u r num den o =
        let p : r * den ≡ den * r = mul_comm r den in
        let q : nearness * u * den ≡ nearness * (den * u) = mul_assoc nearness u den ∙ ap (λ (z : ℕ). nearness * z) (mul_comm u den) in
        (omega arith, omega arith)

-- Each value of two bytes is within the bound of its exact fraction.
pub value_close : (snorm : Bool) (c0 c1 k : ℕ) → c0 < 256 → c1 < 256 → k < 8 → Close (value_at snorm c0 c1 k) (exact_num snorm c0 c1 k) (exact_den snorm c0 c1)
value_close snorm c0 c1 k h0 h1 h = close (value_at snorm c0 c1 k) (exact_num snorm c0 c1 k) (exact_den snorm c0 c1) (value_bounded snorm c0 c1 k h0 h1 h)

-- Each sample of a block is.
pub decoded_close : (snorm : Bool) (n i : ℕ) → i < 16
    → Close (pixel_at (decoded n snorm) i) (exact_num snorm (byte_at n 0) (byte_at n 1) (block_index n i)) (exact_den snorm (byte_at n 0) (byte_at n 1))
decoded_close snorm n i h =
    rw (decoded_at snorm n i h) (value_close snorm (byte_at n 0) (byte_at n 1) (block_index n i) (byte_lt n 0) (byte_lt n 1) (index_lt n i))
