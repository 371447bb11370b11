use mathlib.Core.Path.{◌≡◌, sym, subst}
use mathlib.Core.List.{List}
use Prim.Native.Nat.{ℕ, zero, suc, ◌+◌, ◌≤◌, ◌<◌}
use native.Mathlib.Omega.{arith}
use lib.Dec.{T}
use lib.Ieee.{Float, nan, binary32, fits}
use lib.ListN.{get_or}
use denote.Param.Members.{Mut, Called}
use Rattle.std.proofs.Common.{rules}
use Rattle.std.specs.Array.{IsFromFnResultFrom}
use Rattle.floats.specs.Arithmetic.{f2}
use Rattle.floats.specs.Helpers.{lane_min}
use Rattle.block.specs.Samples.{pixel_at}
use Rattle.block.proofs.Made.{made}
use Rattle.compress.specs.Network.{capped}
use Rattle.compress.proofs.network.capped.Goals as goal

abbrev entry : List Float → ℕ → Float
entry b i = lane_min (pixel_at b i) f2

-- what holds of each answer of the closure holds of each element
module _ {F : Type 0} (g : Mut F (ℕ × Unit {0}) Float) (f : F) (Q : Float → Type 0) (n : ℕ) (one : (i : ℕ) (y : Float) (q : F) → i < n → Called g f (i, tt) y q → Q y × (q ≡ f)) where
  each_from : (z : Float) (ys : List Float) (m i j k : ℕ) → i + m ≤ n → j < m → i + j ≡ k → IsFromFnResultFrom g f ys i m → Q (get_or ys k z)
  each_from z ys zero i j k b l s e = absurd (omega arith)
  each_from z ys (suc m) i zero k b l s e =
      let at : i ≡ k = omega arith in
      subst (λ (v : ℕ). Q (get_or ys v z)) at (subst Q (sym (e.2.1 z)) (one i e.1 e.0 (omega arith) e.3).0)
  each_from z ys (suc m) i (suc j) k b l s e =
      each_from z ys m (i + 1) j k (omega arith) (omega arith) (omega arith) (subst (λ p. IsFromFnResultFrom g p ys (i + 1) m) (one i e.1 e.0 (omega arith) e.3).1 e.4)

pub returns-clause-value : goal.returns-clause-value
unfolding capped
returns-clause-value c = made _ _ (entry c.args.b.now) 16 (λ i y q l k. search rules) nan _ c.from_fn.ensures.items

pub returns-clause-fit : goal.returns-clause-fit
returns-clause-fit c i h = each_from _ _ (λ y. T (fits binary32 y)) 16 (λ i y q l k. search rules) nan _ 16 0 i i (omega arith) h (omega arith) c.from_fn.ensures.items.each
