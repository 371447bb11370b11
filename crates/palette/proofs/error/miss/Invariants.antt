use mathlib.Core.Path.{◌≡◌}
use Prim.Native.Nat.{◌≤◌}
use Rattle.palette.specs.PaletteError.{least_square_to}
use Rattle.palette.proofs.error.miss.Given as goal

abbrev pub invariant-loop-value : goal.invariant-loop-value
invariant-loop-value l = (l.value-index ≤ 7) × (l.least ≡ least_square_to l.fn.eight l.pixel l.value-index)
