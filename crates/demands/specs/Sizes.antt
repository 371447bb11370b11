-- Document 02, 2/12: what is promised of the sizes of a tile besides their place in each call's list, which is in `Demand1`.
use Rattle.std.specs.Prelude.{◌≡◌, ◌⊎◌, ℕ}
use Rattle.refusal.specs.declared.Refusal.{Refusal}
use Rattle.refusal.specs.declared.Refusal.TheVariants.{SideIsZero, SideTooLarge, SideNotMultipleOf4}
use Rattle.refusal.specs.declared.Side.TheVariants.{Width, Height}
use Rattle.std.specs.declared.result.Result.TheVariants.{Ok, Err}
use Rattle.refusal.specs.Refusals.{first_of, size_checks}
use Rattle.demands.specs.Exactly.{Iff, AnyOf, InNumberOrder}
use Rattle.demands.specs.Conditions.{BadSide, SizeRefuses}

-- what the one list of checks answers for a size
abbrev pub Answers : ℕ → ℕ → Refusal → Type 0
Answers width height q = first_of (size_checks width height) ≡ Err q

pub record Sizes : Type 0 where
  -- each number and side exactly when, and no number is given where a lower one of the three applies to either side
  pub exactly : (width height : ℕ) → InNumberOrder (first_of (size_checks width height)) (SizeRefuses width height)
  -- everything that was accepted is, and nothing more: none of 1, 9, 10 applies exactly where document 01's 1 does not
  pub as_before : (width height : ℕ) → Iff ((q : Refusal) → AnyOf (SizeRefuses width height) q → ⊥) (BadSide width ⊎ BadSide height → ⊥)
  -- the number first, and then the width before the height
  pub six_by_none : Answers 6 0 (SideIsZero Height)
  pub six_by_long : Answers 6 2000 (SideTooLarge Height)
  pub long_by_six : Answers 2000 6 (SideTooLarge Width)
  pub long_and_odd : Answers 1026 4 (SideTooLarge Width)
  pub six_by_six : Answers 6 6 (SideNotMultipleOf4 Width)
  pub none_by_none : Answers 0 0 (SideIsZero Width)
  pub long_by_none : Answers 2000 0 (SideIsZero Height)
  pub largest : first_of (size_checks 1024 1024) ≡ Ok tt
