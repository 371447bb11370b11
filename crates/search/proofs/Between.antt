-- The values of a pair's palettes lie between the floats of its bytes, but for less than a margin of rounding; of four values, 0 and 1 aside.
use mathlib.Core.Path.{◌≡◌, refl, ap, ◌∙◌}
use mathlib.Core.Bool.{Bool, true, false}
use Prim.Native.Nat.{ℕ, zero, suc, ◌+◌, ◌-◌, ◌*◌, ◌^◌, ◌≤◌, ◌<◌}
use native.Mathlib.Nat.{le_trans, le_of_eq, one-mul, mul_assoc, mul_comm, mul_left_comm, add-mul, suc-mul, mul-le-mul, mul-le-mul_left, mul-le-mul_right, le_of_mul-le-mul_right}
use native.Mathlib.Omega.{arith}
use lib.Dec.{T, lit≤, lit<}
use lib.Pow.{pow_pos}
use lib.Ieee.{Float, nan, inf, fin, binary32, up, down, neg, add, sub, mul, div, le, of_bits, of_int}
use lib.Ieee.Bits.{is_true}
use lib.Ieee.Exact.{HasValue}
use lib.Ieee.Fits.{down_pos}
use lib.Ieee.Positive.{positive}
use lib.Ieee.Scale.{finite}
use borrow.Author.Tests.{lt-ltb}
use Rattle.floats.specs.Arithmetic.{◌⊕◌, ◌⊖◌, ◌⊗◌, whole, bits, f1}
use Rattle.floats.specs.Bounds.{Within}
use Rattle.floats.proofs.Tests.{clash}
use Rattle.floats.proofs.Order.{le_of_lt, le_trans as f_trans}
use Rattle.floats.proofs.ExactResult.{neg_at}
use Rattle.floats.proofs.SignedOrder.{differences_leq, difference_leq}
use Rattle.floats.proofs.Monotone.{add_leq, add_mono, add_comm, mul_mono, mul_comm as f_comm}
use Rattle.floats.proofs.Squares.{Plain}
use Rattle.floats.proofs.Rounding.{Off, Rounds}
use Rattle.floats.proofs.RoundedResult.{sub_rounds, mul_rounds, ratio, whole_at}
use Rattle.floats.proofs.Table.{all, at, both, both_left, both_right}
use Rattle.values.specs.Values.{level_value, value_of}
use Rattle.values.proofs.Levels.{level_value_lt}
use Rattle.palette.specs.Palettes.{entry, seventh, fifth1, fifth2, fifth3, fifth4, towards, colors, values6, values4}
use Rattle.search.specs.Floor.{margin}

pub record Between (min max : ℕ) (v : Float) : Type 0 where
  pub from_min : le (value_of min false ⊖ margin) v ≡ true
  pub to_max : le v (value_of max false ⊕ margin) ≡ true

lo_hi : (min max : ℕ) → min < max → max ≤ 255 → le (value_of min false) (value_of max false) ≡ true
lo_hi min max h l = le_of_lt (value_of min false) (value_of max false) (level_value_lt false min max h l)

-- ---- the ends, and four values: a sum of parts grows with either end, and where both ends are one level a test of each level shows it
abbrev blend : Float → Float → ℕ → Float
blend v w n = level_value n false ⊗ v ⊕ level_value n false ⊗ w

abbrev close : (ℕ → Float) → ℕ → Bool
close g n = both (le (level_value n false ⊖ margin) (g n)) (le (g n) (level_value n false ⊕ margin))

abbrev fine : Float → Float → ℕ → Bool
fine v w n = both (both (finite (level_value n false ⊗ v)) (finite (level_value n false ⊗ w))) (close (blend v w) n)

every_level : T (all (close (λ (n : ℕ). level_value n false)) 256) × T (all (fine fifth4 fifth1) 256) × T (all (fine fifth3 fifth2) 256) × T (all (fine fifth2 fifth3) 256) × T (all (fine fifth1 fifth4) 256)
unfolding level_value add sub mul div le of_int of_bits
every_level = (tt, tt, tt, tt, tt)

close_at : (g : ℕ → Float) (n : ℕ) → T (close g n) → (le (value_of n false ⊖ margin) (g n) ≡ true) × (le (g n) (value_of n false ⊕ margin) ≡ true)
close_at g n t =
    let low = le (value_of n false ⊖ margin) (g n) in
    let high = le (g n) (value_of n false ⊕ margin) in
    (is_true low (both_left low high t), is_true high (both_right low high t))

level_close : (n : ℕ) → n ≤ 255 → (le (value_of n false ⊖ margin) (value_of n false) ≡ true) × (le (value_of n false) (value_of n false ⊕ margin) ≡ true)
level_close n h = close_at (λ (n : ℕ). level_value n false) n (at (close (λ (n : ℕ). level_value n false)) 256 every_level.0 n (omega arith))

part_mono : (v x y : Float) → T (positive v) → le x y ≡ true → le (x ⊗ v) (y ⊗ v) ≡ true
part_mono v x y p h = rw (f_comm binary32 x v, f_comm binary32 y v) (mul_mono binary32 v x y p h)

module _ (v w : Float) (every : T (all (fine v w) 256)) (n : ℕ) (h : n ≤ 255) where
  fine_at : T (fine v w n)
  fine_at = at (fine v w) 256 every n (omega arith)

  abbrev sizes : Bool
  sizes = both (finite (level_value n false ⊗ v)) (finite (level_value n false ⊗ w))

  finite_v : T (finite (value_of n false ⊗ v))
  finite_v = both_left (finite (level_value n false ⊗ v)) (finite (level_value n false ⊗ w)) (both_left sizes (close (blend v w) n) fine_at)

  finite_w : T (finite (value_of n false ⊗ w))
  finite_w = both_right (finite (level_value n false ⊗ v)) (finite (level_value n false ⊗ w)) (both_left sizes (close (blend v w) n) fine_at)

  blend_close : (le (value_of n false ⊖ margin) (blend v w n) ≡ true) × (le (blend v w n) (value_of n false ⊕ margin) ≡ true)
  blend_close = close_at (blend v w) n (both_right sizes (close (blend v w) n) fine_at)

four_between : (min max : ℕ) → min < max → max ≤ 255 → (v w : Float) → T (positive v) → T (positive w) → T (all (fine v w) 256)
    → Between min max (value_of min false ⊗ v ⊕ value_of max false ⊗ w)
four_between min max h l v w p q every =
    let lo = value_of min false in
    let hi = value_of max false in
    let m : min ≤ 255 = omega arith in
    let i : le lo hi ≡ true = lo_hi min max h l in
    let under : le (blend v w min) (lo ⊗ v ⊕ hi ⊗ w) ≡ true =
    rw (add_comm binary32 (lo ⊗ v) (lo ⊗ w), add_comm binary32 (lo ⊗ v) (hi ⊗ w)) (add_mono binary32 (lo ⊗ v) (lo ⊗ w) (hi ⊗ w) (finite_v v w every min m) (part_mono w lo hi q i)) in
    let over : le (lo ⊗ v ⊕ hi ⊗ w) (blend v w max) ≡ true = add_mono binary32 (hi ⊗ w) (lo ⊗ v) (hi ⊗ v) (finite_w v w every max l) (part_mono v lo hi p i) in
    record {
      from_min = f_trans (lo ⊖ margin) (blend v w min) (lo ⊗ v ⊕ hi ⊗ w) (blend_close v w every min m).0 under;
      to_max = f_trans (lo ⊗ v ⊕ hi ⊗ w) (blend v w max) (hi ⊕ margin) over (blend_close v w every max l).1;
    }

-- ---- six values. In units of binary32's smallest, 2 ^ -149: hi is a and lo is b, d is their difference rounded, and p a part of d rounded. `t` is
-- 2 ^ 123 units, 1 is 67108864 * t, and the margin 16 * t; it stays a variable wherever `omega` is used.
abbrev End : ℕ → Type 0
End n = Rounds (value_of n false) false (n * 2 ^ 149) 255 125

end_at : (n : ℕ) → n ≤ 255 → End n
unfolding level_value
end_at n h =
    ratio (whole n) (whole 255) n 255 125 (lit≤ tt) (lit< tt) (le_trans (mul-le-mul_right (2 ^ 149) h) (le_of_eq (mul_comm 255 (2 ^ 149))))
    (whole_at n (le_trans h (lit≤ tt))) (whole_at 255 (lit≤ tt))

apart : (t m n a b : ℕ) → 0 < t → n < m → Off (a * 255 * 2) (m * (67108864 * t) * 2) (255 * (4 * t)) → Off (b * 255 * 2) (n * (67108864 * t) * 2) (255 * (4 * t)) → b < a
apart t m n a b T h o p =
    let x : suc n * t ≤ m * t = mul-le-mul_right t h in
    let y : suc n * t ≡ n * t + t = suc-mul n t in
    let v : m * (67108864 * t) ≡ 67108864 * (m * t) = mul_left_comm m 67108864 t in
    let w : n * (67108864 * t) ≡ 67108864 * (n * t) = mul_left_comm n 67108864 t in
    omega arith

two : (t a b : ℕ) → a ≤ 67108864 * t → b ≤ 67108864 * t → a + b ≤ 134217728 * t
two t a b h k = omega arith

-- q / c is at most 1
part_off : (t d p q c : ℕ) → 0 < c → q ≤ c → Off (p * c * 2) (d * q * 2) (c * (8 * t)) → p ≤ d + 4 * t
part_off t d p q c C h o =
    let x : d * q ≤ d * c = mul-le-mul_left d h in
    let y : c * (8 * t) ≡ 8 * (t * c) = mul_comm c (8 * t) ∙ mul_assoc 8 t c in
    let z : (d + 4 * t) * c ≡ d * c + 4 * (t * c) = add-mul d (4 * t) c ∙ ap (λ (k : ℕ). d * c + k) (mul_assoc 4 t c) in
    le_of_mul-le-mul_right (sums (p * c) (d * q) (d * c) (c * (8 * t)) (t * c) ((d + 4 * t) * c) x y z o.above) C
  where
    sums : (p q d e t s : ℕ) → q ≤ d → e ≡ 8 * t → s ≡ d + 4 * t → p * 2 ≤ q * 2 + e → p ≤ s
    sums p q d e t s x y z h = omega arith

six_low : (t a b d p : ℕ) → b < a → Off (d * 1 * 2) ((a - b) * 2) (1 * (8 * t)) → p ≤ d + 4 * t → b + p ≤ a + 16 * t
six_low t a b d p h o k = omega arith

six_high : (a p m : ℕ) → a ≤ a + m + p
six_high a p m = omega arith

margin_units : HasValue margin false (16 * 2 ^ 123) (2 ^ 149)
unfolding of_bits
margin_units = (refl, refl)

module _ (min max : ℕ) (h : min < max) (l : max ≤ 255) where
  part_between : (v : Float) (q c : ℕ) → 0 < c → q ≤ c → HasValue v false q c → Between min max (towards (value_of max false) (value_of min false) v)
  part_between v q c C k val =
      let t = 2 ^ 123 in
      let lo = value_of min false in
      let hi = value_of max false in
      let a : End max = end_at max l in
      let b : End min = end_at min (omega arith) in
      let i : b.n < a.n = apart t max min a.n b.n (pow_pos 123) h a.off b.off in
      let d : Rounds (lo ⊖ hi) true (a.n - b.n) 1 126 =
      rw (lt-ltb b.n a.n i) at (sub_rounds lo hi false false b.n a.n 126 (lit≤ tt) (two t b.n a.n b.top a.top) b.val a.val) in
      let p : Rounds ((lo ⊖ hi) ⊗ v) true (d.n * q) c 126 = mul_rounds (lo ⊖ hi) v true false d.n q c 126 (lit≤ tt) C (mul-le-mul d.top k) d.val val in
      let low = six_low t a.n b.n d.n p.n i d.off (part_off t d.n p.n q c C k p.off) in
      record {
        from_min = unfold sub in add_leq binary32 lo (neg margin) hi ((lo ⊖ hi) ⊗ v) false true false true b.n (16 * t) a.n p.n (2 ^ 149) (pow_pos 149)
            b.val (neg_at margin false (16 * t) (2 ^ 149) margin_units) a.val p.val (differences_leq b.n (16 * t) a.n p.n low);
        to_max = add_leq binary32 hi ((lo ⊖ hi) ⊗ v) hi margin false true false false a.n p.n a.n (16 * t) (2 ^ 149) (pow_pos 149)
            a.val p.val a.val margin_units (difference_leq a.n p.n (a.n + 16 * t) (six_high a.n p.n (16 * t)));
      }

  six_between : (v : Float) → Plain v → Within 1 v → Between min max (towards (value_of max false) (value_of min false) v)
  six_between nan s k = absurd k
  six_between (inf s) e k = absurd k
  six_between (fin true m e) s k = clash refl s
  six_between (fin false m e) s k = part_between (fin false m e) (m * up e) (down e) (down_pos e) (le_trans k (le_of_eq (one-mul (down e)))) (refl, refl)

  -- ---- all of them
  lo_between : Between min max (value_of min false)
  lo_between = record { from_min = (level_close min (omega arith)).0; to_max = f_trans (value_of min false) (value_of max false) _ (lo_hi min max h l) (level_close max l).1 }

  hi_between : Between min max (value_of max false)
  hi_between = record { from_min = f_trans _ (value_of min false) (value_of max false) (level_close min (omega arith)).0 (lo_hi min max h l); to_max = (level_close max l).1 }

  pub six_values_lem : (k : ℕ) → k < 8 → Between min max (entry (values6 (value_of max false) (value_of min false)) k)
  unfolding values6 of_bits
  six_values_lem zero i = hi_between
  six_values_lem (suc zero) i = six_between seventh refl (lit≤ tt)
  six_values_lem (suc (suc zero)) i = six_between (bits 0x3e92_4925) refl (lit≤ tt)
  six_values_lem (suc (suc (suc zero))) i = six_between (bits 0x3edb_6db7) refl (lit≤ tt)
  six_values_lem (suc (suc (suc (suc zero)))) i = six_between (bits 0x3f12_4925) refl (lit≤ tt)
  six_values_lem (suc (suc (suc (suc (suc zero))))) i = six_between (bits 0x3f36_db6e) refl (lit≤ tt)
  six_values_lem (suc (suc (suc (suc (suc (suc zero)))))) i = six_between (bits 0x3f5b_6db7) refl (lit≤ tt)
  six_values_lem (suc (suc (suc (suc (suc (suc (suc zero))))))) i = six_between f1 refl (lit≤ tt)
  six_values_lem (suc (suc (suc (suc (suc (suc (suc (suc k)))))))) i = absurd (omega arith)

  -- past 0 and 1
  pub four_values : (k : ℕ) → k < 6 → Between min max (entry (values4 (value_of min false) (value_of max false)) (suc (suc k)))
  unfolding values4 colors of_bits
  four_values zero i = lo_between
  four_values (suc zero) i = hi_between
  four_values (suc (suc zero)) i = four_between min max h l fifth4 fifth1 tt tt every_level.1
  four_values (suc (suc (suc zero))) i = four_between min max h l fifth3 fifth2 tt tt every_level.2
  four_values (suc (suc (suc (suc zero)))) i = four_between min max h l fifth2 fifth3 tt tt every_level.3
  four_values (suc (suc (suc (suc (suc zero))))) i = four_between min max h l fifth1 fifth4 tt tt every_level.4
  four_values (suc (suc (suc (suc (suc (suc k)))))) i = absurd (omega arith)
