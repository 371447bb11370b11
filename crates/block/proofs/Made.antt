-- An array of what a closure answers at each index, by `std::array::from_fn`: it is the list of what the closure is known to answer.
use mathlib.Core.Path.{◌≡◌, subst, ◌∙◌}
use mathlib.Core.List.{List}
use Prim.Native.Nat.{ℕ, zero, suc, ◌+◌, ◌≤◌, ◌<◌}
use native.Mathlib.Omega.{arith}
use lib.ListN.{get_or}
use denote.Param.Members.{Mut, Called}
use Rattle.std.specs.Array.{IsFromFnResult, IsFromFnResultFrom}
use Rattle.block.specs.Samples.{tabulate}
use Rattle.block.proofs.Fill.{tabulated}

-- The closure answers h i at each index i below n, and changes nothing.
module _ {F A : Type 0} (g : Mut F (ℕ × Unit {0}) A) (f : F) (h : ℕ → A) (n : ℕ) (one : (i : ℕ) (y : A) (q : F) → i < n → Called g f (i, tt) y q → (y ≡ h i) × (q ≡ f)) where
  made_from : (z : A) (ys : List A) (m i j k : ℕ) → i + m ≤ n → j < m → i + j ≡ k → IsFromFnResultFrom g f ys i m → get_or ys k z ≡ h k
  made_from z ys zero i j k b l s e = absurd (omega arith)
  made_from z ys (suc m) i zero k b l s e =
      let at : i ≡ k = omega arith in
      subst (λ (v : ℕ). get_or ys v z ≡ h v) at (e.2.1 z ∙ (one i e.1 e.0 (omega arith) e.3).0)
  made_from z ys (suc m) i (suc j) k b l s e =
      made_from z ys m (i + 1) j k (omega arith) (omega arith) (omega arith) (subst (λ p. IsFromFnResultFrom g p ys (i + 1) m) (one i e.1 e.0 (omega arith) e.3).1 e.4)

  pub made : (z : A) (ys : List A) → IsFromFnResult g f ys n → ys ≡ tabulate h 0 n
  made z ys e = tabulated z h ys e.long (λ k l. made_from z ys n 0 k k (omega arith) l (omega arith) e.each)
