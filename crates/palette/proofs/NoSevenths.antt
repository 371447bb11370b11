-- No sevenths from c1 towards c0 are c1 itself, as f32 works them out: 0 times a difference is a zero, of either sign, and adds nothing.
use mathlib.Core.Path.{◌≡◌, refl, ap, ◌∙◌}
use mathlib.Core.Bool.{Bool, true, false, cond, ◌&&◌}
use Prim.Native.Nat.{ℕ, ◌-◌, ◌*◌, ◌≤◌}
use native.Mathlib.Omega.{arith}
use lib.Dec.{T, ltb, lit≤}
use lib.Ieee.{Float, nan, inf, fin, binary32, up, down, fits, round, sum, add, of_bits, of_int}
use lib.Ieee.Fits.{down_pos}
use borrow.Author.Tests.{ltb-false, le-ltb}
use Rattle.floats.specs.Arithmetic.{◌⊕◌, ◌⊖◌, ◌⊗◌, whole}
use Rattle.floats.specs.Bounds.{Within}
use Rattle.floats.proofs.Tests.{clash}
use Rattle.floats.proofs.ExactResult.{add_at}
use Rattle.floats.proofs.Exactly.{round_fixed}
use Rattle.floats.proofs.Squares.{Plain}
use Rattle.floats.proofs.Bounds.{sub_within, mul_within}
use Rattle.palette.specs.Palettes.{seventh, inter6_palette, blended}

zero_sum : (s : Bool) (b c : ℕ) → sum binary32 s 0 false b c ≡ round binary32 false b c
unfolding sum
zero_sum false b c = ap (λ (n : ℕ). round binary32 false n c) (omega arith)
zero_sum true b c = go (ltb 0 b) refl
  where
    go : (t : Bool) → ltb 0 b ≡ t → cond t (round binary32 false (b - 0) c) (round binary32 (true && ltb b 0) (0 - b) c) ≡ round binary32 false b c
    go true e = ap (λ (n : ℕ). round binary32 false n c) (omega arith)
    go false e = rw (le-ltb b 0 (omega arith)) (ap (λ (n : ℕ). round binary32 false n c) (omega (arith, ltb-false 0 b e)))

-- a zero of either sign, and what is not negative
pub zero_plus : (z x : Float) → Within 0 z → T (fits binary32 x) → Plain x → z ⊕ x ≡ x
zero_plus nan x w f p = absurd w
zero_plus (inf s) x w f p = absurd w
zero_plus (fin s m e) nan w f p = unfold add in refl
zero_plus (fin s m e) (inf t) w f p = unfold add in refl
zero_plus (fin s m e) (fin true n d) w f p = clash refl p
zero_plus (fin s m e) (fin false n d) w f p =
    add_at binary32 (fin s m e) (fin false n d) s false 0 (n * up d) (down d) (down_pos d) (refl, none (m * up e) (down e) (down d) w) (refl, refl)
    ∙ zero_sum s (n * up d) (down d) ∙ round_fixed n d f
  where
    none : (a c d : ℕ) → a ≤ 0 * c → a * d ≡ 0 * c
    none a c d h = let z : a ≡ 0 = omega arith in rw z (omega arith)

pub blended_0 : (c0 c1 : Float) → Within 1 c0 → Within 1 c1 → T (fits binary32 c1) → Plain c1 → blended (inter6_palette c0 c1) 0 ≡ c1
unfolding blended inter6_palette
blended_0 c0 c1 h0 h1 f p =
    let d = sub_within binary32 1 1 c0 c1 (lit≤ tt) h0 h1 in
    let part = mul_within binary32 1 2 seventh (c0 ⊖ c1) (lit≤ tt) (unfold of_bits in lit≤ tt) d in
    zero_plus (whole 0 ⊗ (seventh ⊗ (c0 ⊖ c1))) c1 (mul_within binary32 0 2 (whole 0) (seventh ⊗ (c0 ⊖ c1)) (lit≤ tt) (unfold of_int in lit≤ tt) part) f p
