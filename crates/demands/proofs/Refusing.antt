-- The first check that applies, for any list of checks: exactly when. And where their numbers do not descend: the lowest.
use mathlib.Core.Path.{◌≡◌, refl, sym, ap}
use mathlib.Core.Bool.{Bool, true, false, cond}
use mathlib.Core.Logic.{inl, inr}
use mathlib.Core.List.{List, [], ◌∷◌, ◌++◌, append-nil}
use Prim.Native.Nat.{ℕ, ◌≤◌}
use native.Mathlib.Omega.{arith}
use lib.Dec.{T, leb, lit≤}
use Rattle.floats.proofs.Tests.{clash}
use Rattle.floats.proofs.Table.{both, both_left, both_right}
use Rattle.refusal.specs.declared.Refusal.{Refusal}
use Rattle.std.specs.declared.result.Result.TheVariants.{Ok, Err}
use Rattle.refusal.specs.Refusals.{number_of, Check, first_of}
use Rattle.refusal.proofs.Firsts.{apart}
use Rattle.demands.specs.Exactly.{Condition, Iff, AnyOf, Exactly, InNumberOrder}

-- a check and a condition say the same
abbrev pub Same : Check → Condition → Type 0
Same c C = (q : Refusal) → Iff ((q ≡ c.refusal) × (c.applies ≡ true)) (C q)

-- at each place of two lists
pub data Alike : List Check → List Condition → Type 1 where
  end : Alike [] []
  then : {c : Check} {C : Condition} {cs : List Check} {Cs : List Condition} → Same c C → Alike cs Cs → Alike (c ∷ cs) (C ∷ Cs)

pub together : {cs ds : List Check} {Cs Ds : List Condition} → Alike cs Cs → Alike ds Ds → Alike (cs ++ ds) (Cs ++ Ds)
together end more = more
together (then same rest) more = then same (together rest more)

-- Those of a first list, and then others, of which more can be said where none of the first applies.
pub exactly_then : {cs : List Check} {Cs : List Condition} (ds : List Check) {Ds : List Condition} → Alike cs Cs → (first_of cs ≡ Ok tt → Exactly (first_of ds) Ds) → Exactly (first_of (cs ++ ds)) (Cs ++ Ds)
unfolding first_of
exactly_then ds end more = more refl
exactly_then ds {Ds} (then {c} {C} {cs} {Cs} same rest) more = go c.applies refl (λ t. exactly_then ds rest (λ p. more (rw t p)))
  where
    go : (t : Bool) → c.applies ≡ t → (c.applies ≡ false → Exactly (first_of (cs ++ ds)) (Cs ++ Ds)) → Exactly (cond t (Err c.refusal) (first_of (cs ++ ds))) (C ∷ (Cs ++ Ds))
    go true t rest =
        let here : C c.refusal = (same c.refusal).0 (refl, t) in
        record {
          refused = λ q. (λ e. let s : c.refusal ≡ q = cc in inl (rw (← s) here), λ f. elim f [ inl x ↦ ap Err (sym ((same q).1 x).0) | inr y ↦ absurd (y.0 c.refusal here) ]);
          passed = (λ e. absurd (apart e), λ none. absurd (none c.refusal (inl here)));
        }
    go false t rest =
        let later = rest t in
        let never : (p : Refusal) → C p → ⊥ = λ p x. clash ((same p).1 x).1 t in
        record {
          refused = λ q. (λ e. inr (never, (later.refused q).0 e), λ f. elim f [ inl x ↦ absurd (never q x) | inr y ↦ (later.refused q).1 y.1 ]);
          passed = (λ e q x. elim x [ inl y ↦ never q y | inr z ↦ later.passed.0 e q z ], λ none. later.passed.1 (λ q z. none q (inr z)));
        }

no_more : Exactly (Ok tt) []
no_more = record { refused = λ q. (λ e. apart (sym e), λ x. absurd x); passed = (λ e q x. x, λ f. refl) }

pub exactly : {cs : List Check} {Cs : List Condition} → Alike cs Cs → Exactly (first_of cs) Cs
unfolding first_of
exactly {cs} {Cs} alike = rw (append-nil cs, append-nil Cs) at (exactly_then [] alike (λ p. no_more))

-- ---- the numbers do not descend, from n on
abbrev pub ascends : ℕ → List Check → Bool
ascends n [] = true
ascends n (c ∷ cs) = both (leb n (number_of c.refusal)) (ascends (number_of c.refusal) cs)

module _ (n : ℕ) (c : Check) (cs : List Check) (a : T (ascends n (c ∷ cs))) where
  first_above : n ≤ number_of c.refusal
  first_above = lit≤ (both_left (leb n (number_of c.refusal)) (ascends (number_of c.refusal) cs) a)

  rest_ascends : T (ascends (number_of c.refusal) cs)
  rest_ascends = both_right (leb n (number_of c.refusal)) (ascends (number_of c.refusal) cs) a

above : {cs : List Check} {Cs : List Condition} → Alike cs Cs → (n : ℕ) (p : Refusal) → T (ascends n cs) → AnyOf Cs p → n ≤ number_of p
above end n p a h = absurd h
above (then {c} {C} {cs} same rest) n p a (inl x) = rw ((same p).1 x).0 (first_above n c cs a)
above (then {c} {C} {cs} same rest) n p a (inr y) =
    let later = above rest (number_of c.refusal) p (rest_ascends n c cs a) y in
    let here = first_above n c cs a in
    omega arith

lowest : {cs : List Check} {Cs : List Condition} → Alike cs Cs → (n : ℕ) (q p : Refusal) → T (ascends n cs) → first_of cs ≡ Err q → AnyOf Cs p → number_of q ≤ number_of p
unfolding first_of
lowest end n q p a e h = absurd h
lowest (then {c} {C} {cs} {Cs} same rest) n q p a e h = go c.applies refl e h (lowest rest (number_of c.refusal) q p (rest_ascends n c cs a))
  where
    go : (t : Bool) → c.applies ≡ t → cond t (Err c.refusal) (first_of cs) ≡ Err q → AnyOf (C ∷ Cs) p → (first_of cs ≡ Err q → AnyOf Cs p → number_of q ≤ number_of p) → number_of q ≤ number_of p
    go true t e (inl x) later = let s : number_of q ≡ number_of p = cc ((same p).1 x).0 in omega arith
    go true t e (inr y) later = let s : number_of q ≡ number_of c.refusal = cc in let u = above rest (number_of c.refusal) p (rest_ascends n c cs a) y in omega arith
    go false t e (inl x) later = absurd (clash ((same p).1 x).1 t)
    go false t e (inr y) later = later e y

pub in_order : {cs : List Check} {Cs : List Condition} → Alike cs Cs → T (ascends 0 cs) → InNumberOrder (first_of cs) Cs
in_order alike a = record { exactly = exactly alike; lowest = λ q p. lowest alike 0 q p a }
