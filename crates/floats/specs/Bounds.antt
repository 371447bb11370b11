-- A bound by a whole number: x is finite, and at most B in size.
use Rattle.std.specs.Prelude.{ℕ, ◌*◌, ◌≤◌, Float}
use Rattle.std.specs.Float.{nan, inf, fin}
use Rattle.std.specs.Float.Ieee.{up, down}

abbrev pub Within : ℕ → Float → Type 0
Within B nan = ⊥
Within B (inf s) = ⊥
Within B (fin s m e) = m * up e ≤ B * down e
