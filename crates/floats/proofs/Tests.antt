-- Tests and what they say: the small steps between a Bool, the equation that a branch gives, and a fact.
use Rattle.std.proofs.Common.{◌≡◌, ℕ, Bool, true, false, not, ◌||◌, T, ltb, leb, ◌⊎◌, sym, refl, ◌∙◌, subst, inl, inr, ⊎_elim, true≢false, le→leb, leb→le, nltb→le, le-ltb}

pub so : {b : Bool} → b ≡ true → T b
so e = subst T (sym e) tt

pub so_not : {b : Bool} → b ≡ false → T (not b)
so_not e = subst (λ (t : Bool). T (not t)) (sym e) tt

pub clash : {b : Bool} {A : Type 0} → b ≡ true → b ≡ false → A
clash p q = absurd (true≢false (sym p ∙ q))

pub either : (b : Bool) → (b ≡ true) ⊎ (b ≡ false)
either true = inl refl
either false = inr refl

pub split : (b : Bool) → T b ⊎ T (not b)
split true = inl tt
split false = inr tt

-- two tests that pass together are equal
pub iff : (p q : Bool) → (T p → T q) → (T q → T p) → p ≡ q
iff true true f g = refl
iff true false f g = absurd (f tt)
iff false true f g = absurd (g tt)
iff false false f g = refl

pub or_i : (p q : Bool) → T p ⊎ T q → T (p || q)
or_i true q h = tt
or_i false q h = ⊎_elim (λ a. absurd a) (λ a. a) h

pub or_e : (p q : Bool) → T (p || q) → T p ⊎ T q
or_e true q h = inl tt
or_e false q h = inr h

pub not_i : (p : Bool) → (T p → ⊥) → T (not p)
not_i true f = f tt
not_i false f = tt

pub leb_not_ltb : (a b : ℕ) → not (ltb b a) ≡ leb a b
leb_not_ltb a b = iff _ _ (λ h. le→leb a b (nltb→le b a h)) (λ h. so_not (le-ltb b a (leb→le a b h)))
