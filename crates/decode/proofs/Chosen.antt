-- The decoder reads what the encoder means: the index that a palette answers for a sample stands for the value that it answers, and the samples of a
-- block that was laid out are the values of its indexes.
use mathlib.Core.Path.{◌≡◌, refl, sym, ap, ◌∙◌}
use mathlib.Core.Bool.{Bool, true, false, cond}
use Prim.Native.Nat.{ℕ, zero, suc, ◌<◌}
use native.Mathlib.Omega.{arith}
use lib.Dec.{eqb}
use lib.Ieee.{Float, nan, inf, fin}
use Rattle.floats.proofs.Squares.{Plain}
use Rattle.values.specs.Values.{value_of}
use Rattle.index_list.specs.Indexes.{filled_to}
use Rattle.index_list.specs.Layout.{packed}
use Rattle.index_list.proofs.ReadBack.{packed_ends, packed_index}
use Rattle.block.specs.Samples.{pixel_at}
use Rattle.palette.specs.Palettes.{entry, inter6_palette, blended, colors}
use Rattle.palette.specs.Closest.{closest6, closest4}
use Rattle.palette.proofs.ClosestLaws.{sevenths_of, closest6_lt, closest6_value, closest4_value}
use Rattle.palette.proofs.NoSevenths.{blended_0}
use Rattle.palette.proofs.Finite.{value_within}
use Rattle.decode.specs.Meaning.{is_six, six_values, eight_of, table_of, value_at, decoded}
use Rattle.decode.proofs.Laws.{decoded_at}
use Rattle.decode.proofs.Bits.{Units}
use Rattle.decode.proofs.Ends.{end_at}

units_plain : (x : Float) (r : ℕ) → Units x r → Plain x
units_plain nan r u = absurd u
units_plain (inf s) r u = absurd u
units_plain (fin s m e) r u = u.0

module _ (snorm : Bool) (c0 c1 : ℕ) (H0 : c0 < 256) (H1 : c1 < 256) where
  abbrev x : Float
  x = value_of c0 snorm

  abbrev y : Float
  y = value_of c1 snorm

  -- ---- six values, by the sevenths that an index stands for; index 0 is c0 itself, and no sevenths are c1
  none : blended (inter6_palette x y) 0 ≡ y
  none =
      let e = end_at snorm c1 H1 in
      blended_0 x y (value_within snorm c0 H0) (value_within snorm c1 H1) e.near.ok (units_plain y e.near.r e.near.val)

  six_sevenths : (k : ℕ) → k < 8 → entry (six_values x y) k ≡ cond (eqb k 0) x (blended (inter6_palette x y) (sevenths_of k))
  unfolding six_values
  six_sevenths zero h = refl
  six_sevenths (suc zero) h = sym none
  six_sevenths (suc (suc zero)) h = refl
  six_sevenths (suc (suc (suc zero))) h = refl
  six_sevenths (suc (suc (suc (suc zero)))) h = refl
  six_sevenths (suc (suc (suc (suc (suc zero))))) h = refl
  six_sevenths (suc (suc (suc (suc (suc (suc zero)))))) h = refl
  six_sevenths (suc (suc (suc (suc (suc (suc (suc zero))))))) h = refl
  six_sevenths (suc (suc (suc (suc (suc (suc (suc (suc k)))))))) h = absurd (omega arith)

  -- the value that `closest` of six values answers, and c0 at index 0
  pub six_chosen : is_six c0 c1 snorm ≡ true → (v : Float)
      → let k = closest6 (inter6_palette x y) v in
      value_at snorm c0 c1 k.index ≡ cond (eqb k.index 0) x k.value
  unfolding table_of
  six_chosen six v =
      let p = inter6_palette x y in
      let k = closest6 p v in
      rw six (six_sevenths k.index (closest6_lt p v) ∙ ap (λ (z : Float). cond (eqb k.index 0) x z) (sym (closest6_value p v)))

  pub four_chosen : is_six c0 c1 snorm ≡ false → (v : Float) → value_at snorm c0 c1 (closest4 (colors x y) v).index ≡ (closest4 (colors x y) v).value
  unfolding table_of
  four_chosen four v = rw four (sym (closest4_value (colors x y) v))

  -- index 0 is c0 in either mode
  pub first_value : value_at snorm c0 c1 0 ≡ x
  unfolding table_of six_values colors
  first_value = go (is_six c0 c1 snorm)
    where
      go : (six : Bool) → entry (eight_of x y six) 0 ≡ x
      go true = refl
      go false = refl

  -- ---- a block that was laid out
  pub packed_decoded : (f : ℕ → ℕ) → ((k : ℕ) → k < 16 → f k < 8) → (i : ℕ) → i < 16
      → pixel_at (decoded (packed c0 c1 (filled_to f 16)) snorm) i ≡ value_at snorm c0 c1 (f i)
  packed_decoded f small i h =
      let ends = packed_ends c0 c1 (filled_to f 16) H0 H1 in
      decoded_at snorm (packed c0 c1 (filled_to f 16)) i h ∙ rw (ends.0, ends.1, packed_index c0 c1 f H0 H1 small i h)
