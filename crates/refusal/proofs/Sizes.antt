-- A size that no check refuses is a good one, and no check refuses a good one.
use mathlib.Core.Path.{◌≡◌}
use mathlib.Core.Bool.{false}
use Prim.Native.Nat.{ℕ}
use Rattle.place.specs.Place.{bad_side, bad_size}
use Rattle.place.proofs.Places.{neither, good_sides}
use Rattle.std.specs.declared.result.Result.TheVariants.{Ok}
use Rattle.refusal.specs.Refusals.{first_of, size_checks}
use Rattle.refusal.proofs.Firsts.{first_clear, clear_passed}

module _ (width height : ℕ) where
  pub size_passed : first_of (size_checks width height) ≡ Ok tt → bad_size width height ≡ false
  unfolding size_checks bad_size bad_side
  size_passed passed =
      let clear = first_clear (size_checks width height) passed in
      rw (clear.0, clear.1.0, clear.1.1.0, clear.1.1.1.0, clear.1.1.1.1.0, clear.1.1.1.1.1.0)

  pub good_passes : bad_size width height ≡ false → first_of (size_checks width height) ≡ Ok tt
  unfolding size_checks bad_side
  good_passes good =
      let sides = good_sides width height good in
      let w = neither _ _ sides.0 in
      let h = neither _ _ sides.1 in
      let w' = neither _ _ w.0 in
      let h' = neither _ _ h.0 in
      clear_passed (size_checks width height) (w'.0, (h'.0, (w'.1, (h'.1, (w.1, (h.1, tt))))))
