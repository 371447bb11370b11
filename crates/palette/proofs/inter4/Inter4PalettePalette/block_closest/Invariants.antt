use mathlib.Core.List.{List}
use Prim.Native.Nat.{ℕ}
use lib.Ieee.{Float, nan}
use Rattle.block.specs.Samples.{pixel_at}
use Rattle.block.proofs.Fill.{Filled}
use Rattle.palette.specs.Closest.{nearest_to}
use Rattle.palette.proofs.inter4.Inter4PalettePalette.block_closest.Given as goal

-- the index and the error of pixel i
abbrev pub index : List Float → List Float → ℕ → ℕ
index colors b i = (nearest_to colors (pixel_at b i) 6).index

abbrev pub off : List Float → List Float → ℕ → Float
off colors b i = (nearest_to colors (pixel_at b i) 6).error

abbrev pub invariant-loop-i : goal.invariant-loop-i
invariant-loop-i l = Filled 0 (index l.self.colors l.b) 16 l.chosen l.i × Filled nan (off l.self.colors l.b) 16 l.errors l.i
