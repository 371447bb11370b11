-- An array that `map` made of another, where what is called says its answer by the element alone.
use mathlib.Core.Path.{◌≡◌, sym, ◌∙◌}
use mathlib.Core.List.{List, map}
use Prim.Native.Nat.{ℕ, ◌<◌}
use native.Mathlib.Omega.{arith}
use lib.ListN.{length, length-map}
use denote.Param.Members.{Mut, Called}
use Rattle.std.specs.Array.{IsMapOf}
use Rattle.std.proofs.lemmas.List.{get_or-map, ext_get_or}

pub mapped : {F A B : Type 0} (g : Mut F (A × Unit {0}) B) (h : A → B) (d : A) (e : B) {f : F} {xs : List A} {ys : List B} {n : ℕ}
    → ((p q : F) (x : A) (y : B) → Called g p (x, tt) y q → y ≡ h x) → length xs ≡ n → IsMapOf g f xs ys n → ys ≡ map h xs
mapped g h d e {f} {xs} {ys} {n} one size m =
    ext_get_or e ys (map h xs) (m.long ∙ sym size ∙ sym (length-map xs h)) (λ i b.
    let within : i < n = omega (arith, m.long) in
    let call = m.at i d e within in
    one call.0 call.1 _ _ call.2 ∙ sym (get_or-map h xs i d e (omega arith)))
