-- An answer refuses as its checks do, of whatever type it is, where `of` reads the refusal back. Of a `Result` it is `refusal_of` of `refusal`.
use mathlib.Core.Path.{◌≡◌}
use Rattle.std.specs.declared.result.Result.TheVariants.{Ok, Err}
use Rattle.refusal.specs.declared.Refusal.{Refusal}
use Rattle.refusal.specs.Refusals.{Checked, answered}

module _ {A : Type 0} (of : A → Checked) (refused : Refusal → A) (value : A) (passed : of value ≡ Ok tt) (back : (q : Refusal) → of (refused q) ≡ Err q) where
  pub refusal_of : (c : Checked) → of (answered refused value c) ≡ c
  refusal_of (Ok tt) = passed
  refusal_of (Err q) = back q
