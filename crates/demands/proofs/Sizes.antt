-- What is promised of sizes.
use mathlib.Core.Path.{◌≡◌, refl}
use mathlib.Core.Bool.{Bool, true, false, not}
use mathlib.Core.Logic.{◌⊎◌}
use mathlib.Core.List.{List, [], ◌∷◌, ◌++◌}
use Prim.Native.Nat.{ℕ, ◌*◌, ◌/◌, ◌%◌}
use native.Mathlib.Omega.{arith}
use lib.Dec.{eqb}
use lib.ListN.{length}
use Rattle.floats.proofs.Tests.{clash}
use Rattle.place.specs.Place.{longest_side, bad_size, bc5_size}
use Rattle.refusal.specs.declared.Refusal.{Refusal}
use Rattle.refusal.specs.declared.Refusal.TheVariants.{EncodedLength}
use Rattle.refusal.specs.Refusals.{first_of, size_checks, bytes_checks_of, bytes_checks}
use Rattle.refusal.proofs.Sizes.{size_passed, good_passes}
use Rattle.demands.specs.Exactly.{WhenUnequal, Iff, AnyOf}
use Rattle.demands.specs.Conditions.{BadSide, NoMultipleOf4, SizeRefuses}
use Rattle.demands.specs.Sizes.{Sizes}
use Rattle.demands.proofs.Refusing.{Alike, end, then, together, exactly, in_order}
use Rattle.demands.proofs.Conditions.{when_same, equal_iff, unequal_iff, below_iff, encoded_iff, pair_encoded_iff, size_iff}

multiple_iff : (n : ℕ) → Iff (not (eqb (n % 4) 0) ≡ true) (NoMultipleOf4 n)
multiple_iff n = let i = unequal_iff (n % 4) 0 in (λ e k same. i.0 e (omega arith), λ none. i.1 (λ even. none (n / 4) (omega arith)))

module _ (width height : ℕ) where
  pub size_alike : Alike (size_checks width height) (SizeRefuses width height)
  unfolding size_checks
  size_alike =
      then (when_same (equal_iff width 0))
      (then (when_same (equal_iff height 0))
      (then (when_same (below_iff longest_side width))
      (then (when_same (below_iff longest_side height))
      (then (when_same (multiple_iff width))
      (then (when_same (multiple_iff height)) end)))))

  as_before : Iff ((q : Refusal) → AnyOf (SizeRefuses width height) q → ⊥) (BadSide width ⊎ BadSide height → ⊥)
  as_before = (
    λ none bad. clash ((size_iff width height).1 bad) (size_passed width height ((exactly size_alike).passed.1 none)),
    λ good. (exactly size_alike).passed.0 (good_passes width height (go (bad_size width height) refl good)),
  )
    where
      go : (t : Bool) → bad_size width height ≡ t → (BadSide width ⊎ BadSide height → ⊥) → t ≡ false
      go true e good = absurd (good ((size_iff width height).0 e))
      go false e good = refl

-- the bytes of a tile
pub bytes_alike : (tile : List ℕ) (width height : ℕ)
    → Alike (bytes_checks (length tile) width height) (SizeRefuses width height ++ WhenUnequal EncodedLength (length tile) (width * height / 2) ∷ [])
bytes_alike tile width height = together (size_alike width height) (then (when_same (encoded_iff (length tile) width height)) end)

pub pair_bytes_alike : (tile : List ℕ) (width height : ℕ)
    → Alike (bytes_checks_of bc5_size (length tile) width height) (SizeRefuses width height ++ WhenUnequal EncodedLength (length tile) (width * height) ∷ [])
pair_bytes_alike tile width height = together (size_alike width height) (then (when_same (pair_encoded_iff (length tile) width height)) end)

pub sizes : Sizes
unfolding first_of size_checks
sizes = record {
  exactly = λ width height. in_order (size_alike width height) tt;
  as_before = as_before;
  six_by_none = refl;
  six_by_long = refl;
  long_by_six = refl;
  long_and_odd = refl;
  six_by_six = refl;
  none_by_none = refl;
  long_by_none = refl;
  largest = refl;
}
