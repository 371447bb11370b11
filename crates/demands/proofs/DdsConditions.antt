-- Each check of a DDS file says what the document's condition says.
use mathlib.Core.Path.{◌≡◌, refl}
use mathlib.Core.Bool.{Bool, true, false, cond, ◌&&◌}
use mathlib.Core.Logic.{inl, inr, dite}
use mathlib.Core.List.{List, [], ◌∷◌}
use Prim.Native.Nat.{ℕ, zero, suc, ◌+◌, ◌-◌, ◌*◌, ◌/◌, ◌%◌, ◌^◌, ◌<◌}
use native.Mathlib.Decide.{dec_lt}
use native.Mathlib.Nat.{div-one, zero-div}
use native.Mathlib.Numerals.{add-one}
use native.Mathlib.Omega.{arith}
use lib.Dec.{eqb, ltb}
use lib.ListN.{length}
use lib.Pow.{shr-shr, mod-pow-add}
use borrow.Author.Tests.{eqb-true, eq-eqb}
use Rattle.index_list.proofs.Laws.{bits_low}
use Rattle.floats.proofs.Tests.{clash}
use Rattle.place.specs.Place.{bc4_size, encoded_length}
use Rattle.dds.specs.Layout.{header_length, extended_length, bc4s, dx10, unsigned_format, signed_format, extended, format_in, array_size_in, body_at, height_in, width_in}
use Rattle.dds.specs.Checks.{is_not, write_checks, read_checks}
use Rattle.demands.specs.Exactly.{Iff}
use Rattle.demands.specs.Conditions.{field, four, NoneOf, CubeFace, BadBody}
use Rattle.demands.specs.Demand1.{WriteRefuses, ReadRefuses}
use Rattle.demands.proofs.Refusing.{Alike, end, then, together}
use Rattle.demands.proofs.Conditions.{when_same, and_iff, equal_iff, unequal_iff, below_iff, half}
use Rattle.demands.proofs.Sizes.{size_alike, bytes_alike}

-- ---- none of two, none of three
none_two : (x a b : ℕ) → Iff (is_not x a && is_not x b ≡ true) (NoneOf x (a ∷ b ∷ []))
none_two x a b = let i = and_iff (is_not x a) (is_not x b) (unequal_iff x a) (unequal_iff x b) in (λ e. let p = i.0 e in (p.0, (p.1, tt)), λ n. i.1 (n.0, n.1.0))

none_three : (x a b c : ℕ) → Iff ((is_not x a && is_not x b) && is_not x c ≡ true) (NoneOf x (a ∷ b ∷ c ∷ []))
none_three x a b c =
    let i = and_iff (is_not x a && is_not x b) (is_not x c) (none_two x a b) (unequal_iff x c) in
    (λ e. let p = i.0 e in (p.0.0, (p.0.1.0, (p.1, tt))), λ n. i.1 ((n.0, (n.1.0, tt)), n.1.1.0))

-- ---- one of n bits
some_bit : (x n : ℕ) → (x % 2 ^ n ≡ 0 → ⊥) → (k : ℕ) × (k < n) × (x / 2 ^ k % 2 ≡ 1)
some_bit x zero other = absurd (other (omega arith))
some_bit x (suc n) other =
    dite (dec_lt 0 (x % 2))
    (λ odd. (0, omega arith, rw div-one (omega arith)))
    (λ even.
    let rest = some_bit (x / 2) n (λ none. other (rw (← add-one n, mod-pow-add x n 1, none) (omega arith))) in
    (1 + rest.0, omega (arith, rest.1), rw (shr-shr x 1 rest.0) at rest.2))

no_bit : (x n k : ℕ) → k < n → x / 2 ^ k % 2 ≡ 1 → x % 2 ^ n ≡ 0 → ⊥
no_bit x n k h bit none = omega (arith, rw none at (bits_low x k 1 n (omega arith)), zero-div (2 ^ k))

-- the six faces are bits 10 to 15
cube_iff : (caps2 : ℕ) → Iff (is_not (caps2 / 2 ^ 10 % 2 ^ 6) 0 ≡ true) (CubeFace caps2)
cube_iff caps2 = (λ e. face (some_bit (caps2 / 2 ^ 10) 6 (i.0 e)), λ f. i.1 (no_face f))
  where
    i : Iff (is_not (caps2 / 2 ^ 10 % 2 ^ 6) 0 ≡ true) (caps2 / 2 ^ 10 % 2 ^ 6 ≡ 0 → ⊥)
    i = unequal_iff (caps2 / 2 ^ 10 % 2 ^ 6) 0

    face : (k : ℕ) × (k < 6) × (caps2 / 2 ^ 10 / 2 ^ k % 2 ≡ 1) → CubeFace caps2
    face f = (10 + f.0, omega arith, omega (arith, f.1), rw (shr-shr caps2 10 f.0) at f.2)

    no_face : CubeFace caps2 → caps2 / 2 ^ 10 % 2 ^ 6 ≡ 0 → ⊥
    no_face f =
        let k : 10 + (f.0 - 10) ≡ f.0 = omega (arith, f.1) in
        no_bit (caps2 / 2 ^ 10) 6 (f.0 - 10) (omega (arith, f.1, f.2)) (rw (shr-shr caps2 10 (f.0 - 10), k) f.3)

-- ---- by whether the file has the extension
module _ (file : List ℕ) where
  no_extension : {A : Type 0} → extended file ≡ false → four file ≡ dx10 → A
  no_extension e same = clash (eq-eqb (four file) dx10 same) e

  format_iff : Iff (is_not (format_in file) unsigned_format && is_not (format_in file) signed_format ≡ true) ((four file ≡ dx10) × NoneOf (field file 128) (80 ∷ 81 ∷ []))
  unfolding format_in
  format_iff = go (extended file) refl (eqb (four file) bc4s)
    where
      go : (t : Bool) → extended file ≡ t → (s : Bool) → let f = cond t (field file 128) (cond s signed_format unsigned_format) in
          Iff (is_not f unsigned_format && is_not f signed_format ≡ true) ((four file ≡ dx10) × NoneOf (field file 128) (80 ∷ 81 ∷ []))
      go true e s = let i = none_two (field file 128) 80 81 in (λ x. (eqb-true (four file) dx10 e, i.0 x), λ y. i.1 y.1)
      go false e true = (λ x. clash x refl, λ y. no_extension e y.0)
      go false e false = (λ x. clash x refl, λ y. no_extension e y.0)

  array_iff : Iff (is_not (array_size_in file) 1 ≡ true) ((four file ≡ dx10) × (field file 140 ≡ 1 → ⊥))
  unfolding array_size_in
  array_iff = go (extended file) refl
    where
      go : (t : Bool) → extended file ≡ t → Iff (is_not (cond t (field file 140) 1) 1 ≡ true) ((four file ≡ dx10) × (field file 140 ≡ 1 → ⊥))
      go true e = let i = unequal_iff (field file 140) 1 in (λ x. (eqb-true (four file) dx10 e, i.0 x), λ y. i.1 y.1)
      go false e = (λ x. clash x refl, λ y. no_extension e y.0)

  body_iff : Iff (is_not (length file) (body_at file + encoded_length bc4_size (width_in file) (height_in file)) ≡ true) (BadBody file)
  unfolding body_at
  body_iff = rw (half (width_in file) (height_in file)) (go (extended file) refl)
    where
      go : (t : Bool) → extended file ≡ t → Iff (is_not (length file) (cond t extended_length header_length + field file 16 * field file 12 / 2) ≡ true) (BadBody file)
      go true e =
          let i = unequal_iff (length file) (extended_length + field file 16 * field file 12 / 2) in
          (λ x. inl (eqb-true (four file) dx10 e, i.0 x), λ b. elim b [ inl y ↦ i.1 y.1 | inr z ↦ absurd (z.0 (eqb-true (four file) dx10 e)) ])
      go false e =
          let i = unequal_iff (length file) (header_length + field file 16 * field file 12 / 2) in
          (λ x. inr (no_extension e, i.0 x), λ b. elim b [ inl y ↦ no_extension e y.0 | inr z ↦ i.1 z.1 ])

  pub read_alike : Alike (read_checks file) (ReadRefuses file)
  read_alike =
      then (when_same (below_iff (length file) 128))
      (then (when_same (and_iff (extended file) (ltb (length file) 148) (equal_iff (four file) dx10) (below_iff (length file) 148)))
      (then (when_same (unequal_iff _ _))
      (then (when_same (unequal_iff _ _))
      (then (when_same (none_three (four file) _ _ _))
      (then (when_same format_iff)
      (then (when_same (below_iff 1 _))
      (then (when_same (below_iff 1 _))
      (then (when_same (cube_iff (field file 112)))
      (then (when_same array_iff) (together (size_alike (field file 16) (field file 12)) (then (when_same body_iff) end)))))))))))

room_iff : (room width height : ℕ) → Iff (ltb room (header_length + encoded_length bc4_size width height) ≡ true) (room < 128 + width * height / 2)
room_iff room width height = rw (half width height) (below_iff room (128 + width * height / 2))

pub write_alike : (tile : List ℕ) (width height : ℕ) (out : List ℕ) → Alike (write_checks (length tile) width height (length out)) (WriteRefuses tile width height out)
write_alike tile width height out =
    together (bytes_alike tile width height) (then (when_same (room_iff (length out) width height)) end)
