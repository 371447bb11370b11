-- A series of resends: what is held stays or gets strictly better, and the flag tells which.
use mathlib.Core.Path.{◌≡◌, refl, sym, subst}
use mathlib.Core.Logic.{inl, inr}
use mathlib.Core.Bool.{Bool, true}
use mathlib.Core.List.{List, [], ◌∷◌, ◌++◌}
use Prim.Native.Nat.{ℕ}
use native.Mathlib.Omega.{arith}
use lib.Ieee.{Float, lt}
use Rattle.floats.proofs.Tests.{clash}
use Rattle.floats.proofs.Order.{lt_irrefl, lt_trans}
use Rattle.index_list.specs.Layout.{bytes_of, from_bytes, AllBytes}
use Rattle.index_list.proofs.ReadBack.{bytes_all, bytes_from}
use Rattle.options.specs.declared.Options.{Options}
use Rattle.decode.specs.BlockError.{block_error}
use Rattle.decode.proofs.Laws.{error_of_bytes}
use Rattle.std.specs.declared.result.Result.TheVariants.{Ok}
use Rattle.refusal.specs.Refusals.{first_of, resend_checks}
use Rattle.refusal.proofs.Firsts.{answered_cases, first_clear, same_of}
use Rattle.bc4.specs.declared.Kept.{Kept}
use Rattle.bc4.specs.Calls.{better_of, resend_answer}
use Rattle.bc4.proofs.Resends.{stays_or_replaced}
use Rattle.demands.specs.Exactly.{Iff}
use Rattle.demands.specs.Demand3.{held_after, series, AllIn, StaysOrBetter}

-- where a resend is not refused, what is held are eight bytes: read as a number and laid out again they are the same
module _ (s : List Float) (held : List ℕ) (all : AllBytes held) (o : Options) where
  held_back : first_of (resend_checks s held o) ≡ Ok tt → bytes_of (from_bytes held) ≡ held
  held_back passed = bytes_from held (same_of _ _ (first_clear (resend_checks s held o) passed).1.0) all

  one_resend : StaysOrBetter o.snorm s held (held_after held (resend_answer s held o))
  one_resend =
      answered_cases (λ r. StaysOrBetter o.snorm s held (held_after held r)) (first_of (resend_checks s held o)) (λ q e. inl refl)
      (λ e.
      elim (stays_or_replaced s (from_bytes held) o) [
        | inl x ↦ inl (rw x.0 (held_back e))
        | inr y ↦ inr (rw (error_of_bytes o.snorm s (better_of s (from_bytes held) o).block) y.2)
      ])

  next_bytes : AllBytes (held_after held (resend_answer s held o))
  next_bytes = answered_cases (λ r. AllBytes (held_after held r)) (first_of (resend_checks s held o)) (λ q e. all) (λ e. bytes_all (better_of s (from_bytes held) o).block)

  pub flag_right : (h : Kept) → resend_answer s held o ≡ Ok h → Iff (h.fresh ≡ true) (bytes_of h.block ≡ held → ⊥)
  flag_right h =
      answered_cases (λ r. r ≡ Ok h → Iff (h.fresh ≡ true) (bytes_of h.block ≡ held → ⊥)) (first_of (resend_checks s held o))
      (λ q e r. let z : ◌≡◌ {A = ℕ} 0 1 = cc in absurd (omega arith))
      (λ e r.
      let same : better_of s (from_bytes held) o ≡ h = cc in
      rw (← same)
      (elim (stays_or_replaced s (from_bytes held) o) [
        | inl x ↦ (λ f. clash f x.1, λ other. absurd (other (rw x.0 (held_back e))))
        | inr y ↦ (
          λ f k. clash y.2 (rw (← error_of_bytes o.snorm s (better_of s (from_bytes held) o).block, k) (lt_irrefl _)),
          λ other. y.1,
        )
      ]))

stays_trans : (snorm : Bool) (s : List Float) (l m n : List ℕ) → StaysOrBetter snorm s l m → StaysOrBetter snorm s m n → StaysOrBetter snorm s l n
stays_trans snorm s l m n (inl p) q = subst (λ (x : List ℕ). StaysOrBetter snorm s x n) p q
stays_trans snorm s l m n (inr p) (inl q) = inr (subst (λ (x : List ℕ). lt (block_error s (from_bytes x) snorm) (block_error s (from_bytes l) snorm) ≡ true) (sym q) p)
stays_trans snorm s l m n (inr p) (inr q) = inr (lt_trans (block_error s (from_bytes n) snorm) (block_error s (from_bytes m) snorm) (block_error s (from_bytes l) snorm) q p)

whole_series : (s : List Float) (snorm : Bool) (held : List ℕ) → AllBytes held → (ps : List Options) → AllIn snorm ps → StaysOrBetter snorm s held (series s held ps)
unfolding series
whole_series s snorm held all [] a = inl refl
whole_series s snorm held all (o ∷ ps) a =
    let next = held_after held (resend_answer s held o) in
    stays_trans snorm s held next (series s next ps) (subst (λ (f : Bool). StaysOrBetter f s held next) a.0 (one_resend s held all o)) (whole_series s snorm next (next_bytes s held all o) ps a.1)

series_bytes : (s : List Float) (held : List ℕ) → AllBytes held → (os : List Options) → AllBytes (series s held os)
unfolding series
series_bytes s held all [] = all
series_bytes s held all (o ∷ os) = series_bytes s (held_after held (resend_answer s held o)) (next_bytes s held all o) os

pub series_after : (s : List Float) (held : List ℕ) (os ps : List Options) → series s held (os ++ ps) ≡ series s (series s held os) ps
unfolding series
series_after s held [] ps = refl
series_after s held (o ∷ os) ps = series_after s (held_after held (resend_answer s held o)) os ps

pub later : (s : List Float) (snorm : Bool) (held : List ℕ) → AllBytes held → (os ps : List Options) → AllIn snorm os → AllIn snorm ps
    → StaysOrBetter snorm s (series s held os) (series s held (os ++ ps))
later s snorm held all os ps a b = rw (series_after s held os ps) (whole_series s snorm (series s held os) (series_bytes s held all os) ps b)
