-- The network over tests, true first. A part of a row that is in order is one number, how many are true, so that each stage that joins parts is a table over those
-- numbers: 625 rows of four parts, 81 of two.
use mathlib.Core.Path.{◌≡◌, refl, ap, ◌∙◌}
use mathlib.Core.Bool.{Bool, true, false, cond, beq, ◌||◌, ◌&&◌}
use mathlib.Core.List.{List, [], ◌∷◌, ◌++◌}
use Prim.Native.Nat.{ℕ, ◌+◌, ◌/◌, ◌%◌, ◌≤◌, ◌<◌}
use native.Mathlib.Omega.{arith}
use lib.Dec.{T, ltb}
use lib.ListN.{length, get_or}
use Rattle.floats.proofs.Table.{both, all, at}
use Rattle.block.specs.Samples.{tabulate, per_pixel}
use Rattle.compress.specs.Network.{Choice, stepped, run, steps_from, fourths, halves, whole, steps}
use Rattle.compress.proofs.Steps.{run_append}

abbrev pub true_first : Choice Bool
true_first = record { first = ◌||◌; second = ◌&&◌; outside = false }

abbrev pub one : Bool → ℕ
one t = cond t 1 0

-- Part c of p is places c, c + p, .., and its first so many are true.
abbrev pub parted : List ℕ → List Bool
parted counts = per_pixel (λ i. ltb (i / length counts) (get_or counts (i % length counts) 0))

-- ---- four parts, from any row: what the steps leave of four tests, and how many of them are true
abbrev four : Bool → Bool → Bool → Bool → List Bool
four a b c d =
    let w1 = (a || c) && (b || d) in
    let w2 = (a && c) || (b && d) in
    ((a || c) || (b || d)) ∷ (w1 || w2) ∷ (w1 && w2) ∷ ((a && c) && (b && d)) ∷ []

abbrev counted : Bool → Bool → Bool → Bool → ℕ
counted a b c d = one a + one b + one c + one d

abbrev firsts : ℕ → List Bool
firsts n = ltb 0 n ∷ ltb 1 n ∷ ltb 2 n ∷ ltb 3 n ∷ []

four_counted : (a b c d : Bool) → four a b c d ≡ firsts (counted a b c d)
four_counted true true true true = refl
four_counted true true true false = refl
four_counted true true false true = refl
four_counted true true false false = refl
four_counted true false true true = refl
four_counted true false true false = refl
four_counted true false false true = refl
four_counted true false false false = refl
four_counted false true true true = refl
four_counted false true true false = refl
four_counted false true false true = refl
four_counted false true false false = refl
four_counted false false true true = refl
four_counted false false true false = refl
four_counted false false false true = refl
four_counted false false false false = refl

abbrev woven : List Bool → List Bool → List Bool → List Bool → List Bool
woven p q r s =
    get_or p 0 false ∷ get_or q 0 false ∷ get_or r 0 false ∷ get_or s 0 false ∷ get_or p 1 false ∷ get_or q 1 false ∷ get_or r 1 false ∷ get_or s 1 false
    ∷ get_or p 2 false ∷ get_or q 2 false ∷ get_or r 2 false ∷ get_or s 2 false ∷ get_or p 3 false ∷ get_or q 3 false ∷ get_or r 3 false ∷ get_or s 3 false ∷ []

woven_same : {p q r s p' q' r' s' : List Bool} → p ≡ p' → q ≡ q' → r ≡ r' → s ≡ s' → woven p q r s ≡ woven p' q' r' s'
woven_same {p} {q} {r} {s} e f g h = rw (← e, ← f, ← g, ← h) refl

module _ (t : ℕ → Bool) where
  abbrev quarter : ℕ → ℕ
  quarter c = counted (t c) (t (c + 4)) (t (c + 8)) (t (c + 12))

  quarter_is : (c : ℕ) → four (t c) (t (c + 4)) (t (c + 8)) (t (c + 12)) ≡ firsts (quarter c)
  quarter_is c = four_counted (t c) (t (c + 4)) (t (c + 8)) (t (c + 12))

  fourths_parted : run true_first fourths (per_pixel t) ≡ parted (quarter 0 ∷ quarter 1 ∷ quarter 2 ∷ quarter 3 ∷ [])
  unfolding run stepped steps_from tabulate
  fourths_parted = woven_same (quarter_is 0) (quarter_is 1) (quarter_is 2) (quarter_is 3)

-- ---- two parts, from four, and one from two: by tables
same : List Bool → List Bool → Bool
same [] [] = true
same [] (y ∷ ys) = false
same (x ∷ xs) [] = false
same (x ∷ xs) (y ∷ ys) = both (beq x y) (same xs ys)

same_is : (xs ys : List Bool) → T (same xs ys) → xs ≡ ys
unfolding same
same_is [] [] h = refl
same_is [] (y ∷ ys) h = absurd h
same_is (x ∷ xs) [] h = absurd h
same_is (true ∷ xs) (true ∷ ys) h = ap (λ zs. true ∷ zs) (same_is xs ys h)
same_is (true ∷ xs) (false ∷ ys) h = absurd h
same_is (false ∷ xs) (true ∷ ys) h = absurd h
same_is (false ∷ xs) (false ∷ ys) h = ap (λ zs. false ∷ zs) (same_is xs ys h)

halved : ℕ → ℕ → ℕ → ℕ → Bool
halved k l m n = same (run true_first halves (parted (k ∷ l ∷ m ∷ n ∷ []))) (parted ((k + m) ∷ (l + n) ∷ []))

every_halved : T (all (λ k. all (λ l. all (λ m. all (halved k l m) 5) 5) 5) 5)
unfolding halved same run stepped steps_from tabulate
every_halved = tt

halves_parted : (k l m n : ℕ) → k < 5 → l < 5 → m < 5 → n < 5 → run true_first halves (parted (k ∷ l ∷ m ∷ n ∷ [])) ≡ parted ((k + m) ∷ (l + n) ∷ [])
unfolding halved
halves_parted k l m n hk hl hm hn =
    same_is _ _ (at (halved k l m) 5 (at (λ m. all (halved k l m) 5) 5 (at (λ l. all (λ m. all (halved k l m) 5) 5) 5 (at (λ k. all (λ l. all (λ m. all (halved k l m) 5) 5) 5) 5 every_halved k hk) l hl) m hm) n hn)

joined : ℕ → ℕ → Bool
joined m n = same (run true_first whole (parted (m ∷ n ∷ []))) (parted ((m + n) ∷ []))

every_joined : T (all (λ m. all (joined m) 9) 9)
unfolding joined same run stepped steps_from tabulate
every_joined = tt

whole_parted : (m n : ℕ) → m < 9 → n < 9 → run true_first whole (parted (m ∷ n ∷ [])) ≡ parted ((m + n) ∷ [])
unfolding joined
whole_parted m n hm hn = same_is _ _ (at (joined m) 9 (at (λ m. all (joined m) 9) 9 every_joined m hm) n hn)

-- ---- The law: after all steps the row is one part, and as many are true as before.
one_le : (t : Bool) → one t ≤ 1
one_le true = omega arith
one_le false = omega arith

module _ (t : ℕ → Bool) where
  quarter_few : (c : ℕ) → quarter t c < 5
  quarter_few c = omega (arith, one_le (t c), one_le (t (c + 4)), one_le (t (c + 8)), one_le (t (c + 12)))

  abbrev pub total : ℕ
  total = quarter t 0 + quarter t 2 + (quarter t 1 + quarter t 3)

  pub whole_row : run true_first steps (per_pixel t) ≡ parted (total ∷ [])
  whole_row =
      run_append true_first (fourths ++ halves) whole (per_pixel t)
      ∙ ap (run true_first whole)
      (run_append true_first fourths halves (per_pixel t)
      ∙ ap (run true_first halves) (fourths_parted t)
      ∙ halves_parted (quarter t 0) (quarter t 1) (quarter t 2) (quarter t 3) (quarter_few 0) (quarter_few 1) (quarter_few 2) (quarter_few 3))
      ∙ whole_parted (quarter t 0 + quarter t 2) (quarter t 1 + quarter t 3) (omega (arith, quarter_few 0, quarter_few 2)) (omega (arith, quarter_few 1, quarter_few 3))
