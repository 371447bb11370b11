-- What 'exactly when' says of a call: conditions in the words of a document, as a list in the order in which the call looks at them.
use Rattle.std.specs.Prelude.{◌≡◌, ◌⊎◌, List, [], ◌∷◌, ℕ, ◌≤◌}
use Rattle.refusal.specs.declared.Refusal.{Refusal}
use Rattle.std.specs.declared.result.Result.TheVariants.{Ok, Err}
use Rattle.refusal.specs.Refusals.{Checked, number_of}

-- ---- a condition: which refusals it gives
abbrev pub Condition : Type 1
Condition = Refusal → Type 0

abbrev pub When : Refusal → Type 0 → Condition
When refusal condition q = (q ≡ refusal) × condition

abbrev pub WhenUnequal : Refusal → ℕ → ℕ → Condition
WhenUnequal refusal m n = When refusal (m ≡ n → ⊥)

-- ---- exactly when
abbrev pub Iff : Type 0 → Type 0 → Type 0
Iff P Q = (P → Q) × (Q → P)

-- a condition of the list gives q, and none that stands before it gives any
abbrev pub FirstOf : List Condition → Refusal → Type 0
FirstOf [] q = ⊥
FirstOf (C ∷ Cs) q = C q ⊎ (((p : Refusal) → C p → ⊥) × FirstOf Cs q)

abbrev pub AnyOf : List Condition → Refusal → Type 0
AnyOf [] q = ⊥
AnyOf (C ∷ Cs) q = C q ⊎ AnyOf Cs q

-- Refusal q is given if and only if its condition holds and none before it in the call's list does; none is given if and only if no condition holds.
pub record Exactly (answer : Checked) (conditions : List Condition) : Type 0 where
  pub refused : (q : Refusal) → Iff (answer ≡ Err q) (FirstOf conditions q)
  pub passed : Iff (answer ≡ Ok tt) ((q : Refusal) → AnyOf conditions q → ⊥)

-- Document 01: "Checks run in number order; the lowest that applies is returned, and none otherwise." So no condition that holds is for a lower number.
pub record InNumberOrder (answer : Checked) (conditions : List Condition) : Type 0 where
  pub exactly : Exactly answer conditions
  pub lowest : (q p : Refusal) → answer ≡ Err q → AnyOf conditions p → number_of q ≤ number_of p
