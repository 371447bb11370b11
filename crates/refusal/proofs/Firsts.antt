-- Laws of the first check that applies.
use mathlib.Core.Path.{◌≡◌, refl, sym, ap, subst, ◌∙◌}
use Rattle.std.specs.Prelude.{IsErrAnd, ⊤}
use mathlib.Core.Bool.{Bool, true, false, not, cond}
use mathlib.Core.List.{List, [], ◌∷◌, ◌++◌}
use Prim.Native.Nat.{ℕ}
use lib.Dec.{T, eqb, eqb→eq}
use borrow.Author.Tests.{not-false}
use Rattle.refusal.specs.declared.Refusal.{Refusal}
use Rattle.refusal.specs.declared.Refusal.TheVariants.{WordMalformed}
use Rattle.std.specs.declared.result.Result.TheVariants.{Ok, Err}
use Rattle.refusal.specs.Refusals.{Answer, Checked, refusal_in, Check, when, first_of, answered, and_word, or_malformed}

abbrev refuses : Checked → Type 0
refuses (Ok tt) = ⊥
refuses (Err q) = Unit {0}

pub apart : {q : Refusal} → ◌≡◌ {A = Checked} (Err q) (Ok tt) → ⊥
apart e = subst refuses e tt

-- What a call answers, by cases: refused, or passed.
pub answered_cases : {A : Type 0} (P : A → Type 0) {refused : Refusal → A} {value : A} (c : Checked) → ((q : Refusal) → c ≡ Err q → P (refused q)) → (c ≡ Ok tt → P value)
    → P (answered refused value c)
answered_cases P (Ok tt) r p = p refl
answered_cases P (Err q) r p = r q refl

-- what `?` hands on
pub handed_on : {A : Type 0} {q : Refusal} (r : Answer A) → IsErrAnd r (λ p. p ≡ q) → r ≡ Err q
handed_on (Ok value) e = absurd e
handed_on (Err p) e = ap Err e

pub passes : (done : ⊤) {c : Checked} → Ok done ≡ c → Ok tt ≡ c
passes tt e = e

-- Checks alone answer no more than a refusal.
pub no_value : (c : Checked) → refusal_in c ≡ c
no_value (Ok tt) = refl
no_value (Err q) = refl

-- An answer refuses as its checks do.
pub refusal_of : {A : Type 0} (value : A) (c : Checked) → refusal_in (answered Err (Ok value) c) ≡ c
refusal_of value (Ok tt) = refl
refusal_of value (Err q) = refl

-- what a call knows of `checked` once it is told apart: no check applies
abbrev pub Clear : List Check → Type 0
Clear [] = Unit {0}
Clear (c ∷ cs) = (c.applies ≡ false) × Clear cs

pub first_clear : (cs : List Check) → first_of cs ≡ Ok tt → Clear cs
unfolding first_of
first_clear [] e = tt
first_clear (c ∷ cs) e = go c.applies refl e (first_clear cs)
  where
    go : (t : Bool) → c.applies ≡ t → cond t (Err c.refusal) (first_of cs) ≡ Ok tt → (first_of cs ≡ Ok tt → Clear cs) → (c.applies ≡ false) × Clear cs
    go true a e rest = absurd (apart e)
    go false a e rest = (a, rest e)

pub clear_passed : (cs : List Check) → Clear cs → first_of cs ≡ Ok tt
unfolding first_of
clear_passed [] clear = refl
clear_passed (c ∷ cs) clear = rw clear.0 (clear_passed cs clear.1)

pub passed_clear : (cs : List Check) {checked : Checked} → checked ≡ first_of cs → checked ≡ Ok tt → Clear cs
passed_clear cs e p = first_clear cs (sym e ∙ p)

-- The refusal given is that of one of the checks: what holds for all of them holds for it.
abbrev pub All : (Refusal → Type 0) → List Check → Type 0
All P [] = Unit {0}
All P (c ∷ cs) = P c.refusal × All P cs

pub first_among : (P : Refusal → Type 0) (cs : List Check) {q : Refusal} → All P cs → first_of cs ≡ Err q → P q
unfolding first_of
first_among P [] all e = absurd (apart (sym e))
first_among P (c ∷ cs) {q} all e = go c.applies e (first_among P cs all.1)
  where
    go : (t : Bool) → cond t (Err c.refusal) (first_of cs) ≡ Err q → (first_of cs ≡ Err q → P q) → P q
    go true e rest = let same : c.refusal ≡ q = cc in rw (← same) all.0
    go false e rest = rest e

-- More checks after those of a list are looked at where none of the list applies.
pub first_append : (cs ds : List Check) → first_of (cs ++ ds) ≡ answered Err (first_of ds) (first_of cs)
unfolding first_of
first_append [] ds = refl
first_append (c ∷ cs) ds = go c.applies (first_append cs ds)
  where
    go : (t : Bool) → first_of (cs ++ ds) ≡ answered Err (first_of ds) (first_of cs)
        → cond t (Err c.refusal) (first_of (cs ++ ds)) ≡ answered Err (first_of ds) (cond t (Err c.refusal) (first_of cs))
    go true rest = refl
    go false rest = rest

-- The same for a call that asks for the checks of `cs` by `?`, and goes on where none of them refuses.
pub refused_first : {A : Type 0} (cs ds : List Check) {q : Refusal} (r : Answer A) → IsErrAnd r (λ p. p ≡ q) → Err q ≡ first_of cs → refusal_in r ≡ first_of (cs ++ ds)
refused_first cs ds r e first = rw (handed_on r e, first_append cs ds, ← first) refl

pub refused_last : {A : Type 0} (cs : List Check) {q : Refusal} (r : Answer A) → IsErrAnd r (λ p. p ≡ q) → Err q ≡ first_of cs → refusal_in r ≡ first_of cs
refused_last cs r e first = rw (handed_on r e, ← first) refl

pub call_refused : {A : Type 0} (value : A) (cs : List Check) {q : Refusal} (r : Answer A) → IsErrAnd r (λ p. p ≡ q) → Err q ≡ first_of cs → r ≡ answered Err (Ok value) (first_of cs)
call_refused value cs r e first = rw (handed_on r e, ← first) refl

pub refused_there : (cs ds : List Check) {q : Refusal} (r : Checked) → IsErrAnd r (λ p. p ≡ q) → Err q ≡ first_of cs → r ≡ first_of (cs ++ ds)
refused_there cs ds r e first = rw (handed_on r e, first_append cs ds, ← first) refl

pub passed_first : (cs ds : List Check) → ◌≡◌ {A = Checked} (Ok tt) (first_of cs) → first_of ds ≡ first_of (cs ++ ds)
passed_first cs ds first = rw (first_append cs ds, ← first) refl

module _ (cs ds : List Check) where
  pub refused_before : {q : Refusal} → first_of cs ≡ Err q → first_of (cs ++ ds) ≡ Err q
  refused_before e = rw (first_append cs ds, e)

  pub passed_before : first_of cs ≡ Ok tt → first_of (cs ++ ds) ≡ first_of ds
  passed_before e = rw (first_append cs ds, e)

  pub both_passed : first_of (cs ++ ds) ≡ Ok tt → (first_of cs ≡ Ok tt) × (first_of ds ≡ Ok tt)
  both_passed e = go (first_of cs) refl (rw (first_append cs ds) at e)
    where
      go : (c : Checked) → first_of cs ≡ c → answered Err (first_of ds) c ≡ Ok tt → (first_of cs ≡ Ok tt) × (first_of ds ≡ Ok tt)
      go (Ok tt) p e = (p, e)
      go (Err q) p e = absurd (apart e)

-- A malformed word is one check more, after all others.
pub word_last : (cs : List Check) (malformed : Bool) → first_of (and_word cs malformed) ≡ cond malformed (Err (or_malformed (first_of cs))) (first_of cs)
unfolding first_of
word_last cs malformed = first_append cs (when WordMalformed malformed ∷ []) ∙ go malformed (first_of cs)
  where
    go : (t : Bool) (c : Checked) → answered Err (cond t (Err WordMalformed) (Ok tt)) c ≡ cond t (Err (or_malformed c)) c
    go true (Ok tt) = refl
    go true (Err q) = refl
    go false (Ok tt) = refl
    go false (Err q) = refl

-- two lengths that a check found equal
pub same_of : (a b : ℕ) → not (eqb a b) ≡ false → a ≡ b
same_of a b e = eqb→eq a b (subst T (sym (not-false (eqb a b) e)) tt)
