-- A rule that antt computes at each number below n by one test, and what it shows of each. Floats are compared as data.
use Rattle.std.proofs.Common.{◌≡◌, ℕ, zero, suc, ◌<◌, ◌≤◌, Bool, true, false, T, eqb, ℤ, pos, negsuc, sym, refl, ap, subst, ⊎_elim, le_of_suc-le-suc, not-suc-le-zero, eq-or-lt_of_le, arith, eqb→eq}
use mathlib.Core.Bool.{beq}
use lib.Ieee.{Float, nan, inf, fin, lt}
use lib.Ieee.Bits.{is_true}
use Rattle.floats.proofs.Order.{lt_trans}

-- both tests pass; unlike `◌&&◌` it looks at its first alone, so that a long run of tests stays cheap
abbrev pub both : Bool → Bool → Bool
both true b = b
both false b = false

pub both_left : (a b : Bool) → T (both a b) → T a
both_left true b t = tt
both_left false b t = t

pub both_right : (a b : Bool) → T (both a b) → T b
both_right true b t = t
both_right false b t = absurd t

-- f passes at each number below n
abbrev pub all : (ℕ → Bool) → ℕ → Bool
all f zero = true
all f (suc n) = both (f n) (all f n)

pub at : (f : ℕ → Bool) (n : ℕ) → T (all f n) → (k : ℕ) → k < n → T (f k)
at f zero t k h = absurd (not-suc-le-zero h)
at f (suc n) t k h =
    ⊎_elim (λ e. subst (λ (m : ℕ). T (f m)) (sym e) (both_left (f n) (all f n) t)) (λ l. at f n (both_right (f n) (all f n) t) k l)
    (eq-or-lt_of_le (le_of_suc-le-suc h))

-- ---- floats as data
abbrev same_exp : ℤ → ℤ → Bool
same_exp (pos a) (pos b) = eqb a b
same_exp (pos a) (negsuc b) = false
same_exp (negsuc a) (pos b) = false
same_exp (negsuc a) (negsuc b) = eqb a b

abbrev pub same : Float → Float → Bool
same nan nan = true
same nan (inf t) = false
same nan (fin t n d) = false
same (inf s) nan = false
same (inf s) (inf t) = beq s t
same (inf s) (fin t n d) = false
same (fin s m e) nan = false
same (fin s m e) (inf t) = false
same (fin s m e) (fin t n d) = both (beq s t) (both (eqb m n) (same_exp e d))

beq→eq : (s t : Bool) → T (beq s t) → s ≡ t
beq→eq true true h = refl
beq→eq true false h = absurd h
beq→eq false true h = absurd h
beq→eq false false h = refl

exp→eq : (e d : ℤ) → T (same_exp e d) → e ≡ d
exp→eq (pos a) (pos b) h = ap pos (eqb→eq a b h)
exp→eq (pos a) (negsuc b) h = absurd h
exp→eq (negsuc a) (pos b) h = absurd h
exp→eq (negsuc a) (negsuc b) h = ap negsuc (eqb→eq a b h)

pub same→eq : (x y : Float) → T (same x y) → x ≡ y
same→eq nan nan h = refl
same→eq nan (inf t) h = absurd h
same→eq nan (fin t n d) h = absurd h
same→eq (inf s) nan h = absurd h
same→eq (inf s) (inf t) h = ap inf (beq→eq s t h)
same→eq (inf s) (fin t n d) h = absurd h
same→eq (fin s m e) nan h = absurd h
same→eq (fin s m e) (inf t) h = absurd h
same→eq (fin s m e) (fin t n d) h =
    let a : s ≡ t = beq→eq s t (both_left (beq s t) (both (eqb m n) (same_exp e d)) h) in
    let r : T (both (eqb m n) (same_exp e d)) = both_right (beq s t) (both (eqb m n) (same_exp e d)) h in
    let b : m ≡ n = eqb→eq m n (both_left (eqb m n) (same_exp e d) r) in
    let c : e ≡ d = exp→eq e d (both_right (eqb m n) (same_exp e d) r) in
    cc

-- ---- a table of floats that grows at each step grows
abbrev pub step : (ℕ → Float) → ℕ → Bool
step g k = lt (g k) (g (suc k))

pub grows : (g : ℕ → Float) (n : ℕ) → T (all (step g) n) → (i j : ℕ) → i < j → j ≤ n → lt (g i) (g j) ≡ true
grows g n t i zero h l = absurd (not-suc-le-zero h)
grows g n t i (suc j) h l =
    let s : lt (g j) (g (suc j)) ≡ true = is_true (step g j) (at (step g) n t j l) in
    ⊎_elim (λ e. subst (λ (m : ℕ). lt (g m) (g (suc j)) ≡ true) (sym e) s) (λ k. lt_trans (g i) (g j) (g (suc j)) (grows g n t i j k (omega arith)) s) (eq-or-lt_of_le (le_of_suc-le-suc h))
