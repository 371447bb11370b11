use lib.Ieee.{nan}
use Rattle.block.proofs.Fill.{Filled}
use Rattle.palette.specs.Rows.{row_code, row_sum, of_row}
use Rattle.palette.proofs.inter6.Inter6PalettePalette.block_closest.Given as goal

abbrev pub invariant-loop-i : goal.invariant-loop-i
invariant-loop-i l = Filled 0 (of_row (row_code l.self) l.b) 4 l.codes l.i × Filled nan (of_row (row_sum l.self) l.b) 4 l.sums l.i
