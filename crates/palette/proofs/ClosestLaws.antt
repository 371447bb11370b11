-- `closest` answers an index below 8, and the value is the palette's entry there.
use mathlib.Core.Path.{◌≡◌, refl, ap₂, ◌∙◌}
use mathlib.Core.Logic.{⊎_elim}
use mathlib.Core.Bool.{Bool, true, false, cond}
use mathlib.Core.List.{List}
use Prim.Native.Nat.{ℕ, zero, suc, ◌+◌, ◌*◌, ◌-◌, ◌≤◌, ◌<◌, min}
use native.Mathlib.Omega.{arith}
use lib.ListN.{get_or}
use lib.Ieee.{Float, binary32, lt, le, neg, add, sub, mul, of_bits, of_int}
use lib.Ieee.Bits.{is_true}
use lib.Ieee.Fits.{add-fits}
use Rattle.floats.specs.Arithmetic.{◌⊕◌, ◌⊖◌, ◌⊗◌, squared, whole, f0, half, f1}
use Rattle.floats.specs.Helpers.{abs_of, byte_of}
use Rattle.floats.proofs.WholePart.{trunc_capped}
use Rattle.floats.proofs.Squares.{square_abs}
use Rattle.block.specs.Samples.{pixel_at, tabulate, per_pixel}
use Rattle.block.specs.Orders.{sum_of_squares}
use Rattle.index_list.specs.Indexes.{filled_to}
use Rattle.index_list.specs.declared.IndexList.{IndexList}
use Rattle.palette.specs.declared.Indexed.{Indexed}
use Rattle.palette.specs.declared.inter4.Nearest.{Nearest}
use Rattle.palette.specs.declared.inter6.Inter6Palette.{Inter6Palette}
use Rattle.palette.specs.Palettes.{entry, index_map, blended}
use Rattle.palette.specs.Closest.{blend, blend7, weight, closest6, default_of, nearer_of, nearest_to, closest4}
use Rattle.palette.specs.Rows.{index6, off6, row_code, row_sum, of_row, cut_weight}

-- ---- four values
-- a choice between two records, field by field as the code makes it
pub nearest_fields : (t : Bool) (k : ℕ) (e : Float) (n : Nearest) → record { index = cond t k n.index; error = cond t e n.error } ≡ cond t (record { index = k; error = e }) n
nearest_fields true k e n = refl
nearest_fields false k e n = refl

default_lt : (x : Float) → (default_of x).index < 8
unfolding default_of
default_lt x = go (le half x)
  where
    go : (t : Bool) → cond t 7 6 < 8
    go true = omega arith
    go false = omega arith

nearer_lt : (n : Nearest) (k : ℕ) (color x : Float) → n.index < 8 → k < 8 → (nearer_of n k color x).index < 8
unfolding nearer_of
nearer_lt n k color x h l = go (lt (abs_of (x ⊖ color)) n.error)
  where
    go : (t : Bool) → (cond t (record { index = k; error = abs_of (x ⊖ color) }) n).index < 8
    go true = l
    go false = h

nearest_lt : (c : List Float) (x : Float) (k : ℕ) → k ≤ 8 → (nearest_to c x k).index < 8
unfolding nearest_to
nearest_lt c x zero h = default_lt x
nearest_lt c x (suc k) h = nearer_lt (nearest_to c x k) k (entry c k) x (nearest_lt c x k (omega arith)) (omega arith)

pub nearest6_lt : (c : List Float) (x : Float) → (nearest_to c x 6).index < 8
nearest6_lt c x = nearest_lt c x 6 (omega arith)

pub closest4_lt : (c : List Float) (x : Float) → (closest4 c x).index < 8
unfolding closest4
closest4_lt c x = nearest6_lt c x

-- ---- six values
pub map_lt : (k : ℕ) → k ≤ 7 → get_or index_map k 0 < 8
map_lt zero h = omega arith
map_lt (suc zero) h = omega arith
map_lt (suc (suc zero)) h = omega arith
map_lt (suc (suc (suc zero))) h = omega arith
map_lt (suc (suc (suc (suc zero)))) h = omega arith
map_lt (suc (suc (suc (suc (suc zero))))) h = omega arith
map_lt (suc (suc (suc (suc (suc (suc zero)))))) h = omega arith
map_lt (suc (suc (suc (suc (suc (suc (suc zero))))))) h = omega arith
map_lt (suc (suc (suc (suc (suc (suc (suc (suc k)))))))) h = absurd (omega arith)

pub blend7_le : (p : Inter6Palette) (x : Float) → blend7 p x ≤ 7
blend7_le p x = capped (byte_of (blend p x))
  where
    capped : (n : ℕ) → min n 7 ≤ 7
    capped n = omega arith

pub closest6_lt : (p : Inter6Palette) (x : Float) → (closest6 p x).index < 8
unfolding closest6
closest6_lt p x = map_lt (blend7 p x) (blend7_le p x)

-- ---- the value is the palette's at that index
pub closest4_value : (c : List Float) (x : Float) → (closest4 c x).value ≡ entry c (closest4 c x).index
unfolding closest4
closest4_value c x = refl

-- how many sevenths towards c0 an index stands for: INDEX_MAP turned round
abbrev pub sevenths_of : ℕ → ℕ
sevenths_of zero = 7
sevenths_of (suc zero) = 0
sevenths_of (suc (suc k)) = 6 - k

map_back : (k : ℕ) → k ≤ 7 → sevenths_of (get_or index_map k 0) ≡ k
map_back zero h = refl
map_back (suc zero) h = refl
map_back (suc (suc zero)) h = refl
map_back (suc (suc (suc zero))) h = refl
map_back (suc (suc (suc (suc zero)))) h = refl
map_back (suc (suc (suc (suc (suc zero))))) h = refl
map_back (suc (suc (suc (suc (suc (suc zero)))))) h = refl
map_back (suc (suc (suc (suc (suc (suc (suc zero))))))) h = refl
map_back (suc (suc (suc (suc (suc (suc (suc (suc k)))))))) h = absurd (omega arith)

pub closest6_value : (p : Inter6Palette) (x : Float) → (closest6 p x).value ≡ blended p (sevenths_of (closest6 p x).index)
unfolding closest6
closest6_value p x = rw (map_back (blend7 p x) (blend7_le p x))

-- at index 0 it is 7·factor2 + c1, not c0
pub closest6_at_0 : (p : Inter6Palette) (x : Float) → (closest6 p x).index ≡ 0 → (closest6 p x).value ≡ whole 7 ⊗ p.factor2 ⊕ p.c1
unfolding blended
closest6_at_0 p x e = closest6_value p x ∙ rw e

-- its error squared, with the sign or without
pub closest6_squared : (p : Inter6Palette) (x : Float) → squared (closest6 p x).error ≡ squared (x ⊖ (closest6 p x).value)
unfolding closest6
closest6_squared p x = square_abs (x ⊖ blended p (blend7 p x))

-- ---- the weight, where the blend is above -1
pub weight_above : (p : Inter6Palette) (x : Float) → lt (neg f1) (blend p x) ≡ true → cut_weight (blend p x) ≡ weight p x
unfolding weight
weight_above p x h =
    ⊎_elim
    (λ t. rw t refl)
    (λ t. rw (t.0, t.1) (unfold sub mul add neg of_bits of_int in refl))
    (trunc_capped (blend p x) (is_true _ (add-fits binary32 (x ⊗ p.factor1) p.add1)) h)

-- ---- a whole block
abbrev indexed : ℕ → Float → Indexed
indexed d total = record { indexes = record { «data» = d }; error = total }

-- ---- the same by rows
pub row_lt : (p : Inter6Palette) (x y z w : Float) → row_code p x y z w < 4096
unfolding row_code
row_lt p x y z w =
    let small : (v : Float) → index6 p v < 8 = λ v. map_lt (blend7 p v) (blend7_le p v) in
    omega (arith, small x, small y, small z, small w)

pub rows_code : (p : Inter6Palette) (b : List Float) → let row = of_row (row_code p) b in
    row 0 + 4096 * row 1 + 16777216 * row 2 + 68719476736 * row 3 ≡ filled_to (λ i. index6 p (pixel_at b i)) 16
unfolding row_code filled_to
rows_code p b = omega arith

pub rows_sum : (p : Inter6Palette) (b : List Float) → let row = of_row (row_sum p) b in
    f0 ⊕ row 0 ⊕ row 1 ⊕ row 2 ⊕ row 3 ≡ sum_of_squares (per_pixel (λ i. off6 p (pixel_at b i)))
unfolding row_sum tabulate
rows_sum p b = refl

-- a square does not show the sign of an error
pub sum_abs : (g : ℕ → Float) → sum_of_squares (per_pixel g) ≡ sum_of_squares (per_pixel (λ i. abs_of (g i)))
unfolding tabulate
sum_abs g = simp square_abs

pub indexed_is : (list : IndexList) (error : Float) (d : ℕ) (total : Float) → list.«data» ≡ d → error ≡ total
    → indexed list.«data» error ≡ indexed d total
indexed_is list error d total p q = ap₂ (λ (n : ℕ) (t : Float). indexed n t) p q
