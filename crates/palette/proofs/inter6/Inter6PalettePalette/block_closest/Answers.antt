use mathlib.Core.Path.{◌≡◌, ◌∙◌}
use Prim.Native.Nat.{ℕ, ◌<◌}
use native.Mathlib.Omega.{arith}
use lib.ListN.{get_or}
use lib.Ieee.{nan}
use Rattle.index_list.specs.Indexes.{filled_to}
use Rattle.block.specs.Samples.{pixel_at}
use Rattle.palette.specs.Closest.{closest6}
use Rattle.palette.specs.Rows.{index6, off6, row_code, row_sum, of_row}
use Rattle.palette.proofs.ClosestLaws.{row_lt, rows_code, rows_sum, sum_abs, indexed_is}
use Rattle.palette.proofs.inter6.Inter6PalettePalette.block_closest.Goals as goal

pub of_rows-requires : goal.of_rows-requires
of_rows-requires c =
    let o = c.loop-i in
    let p = c.args.self in
    let b = c.args.b.now in
    let small : (k : ℕ) → k < 4 → get_or o.codes k 0 < 4096 = λ k l. rw (o.invariant.0.done k (omega arith)) (row_lt p _ _ _ _) in
    (small 0 (omega arith), small 1 (omega arith), small 2 (omega arith), small 3 (omega arith))

pub returns : goal.returns
unfolding closest6
returns c =
    let o = c.loop-i in
    let p = c.args.self in
    let b = c.args.b.now in
    let code : (k : ℕ) → k < 4 → get_or o.codes k 0 ≡ of_row (row_code p) b k = λ k l. o.invariant.0.done k (omega arith) in
    let sum : (k : ℕ) → k < 4 → get_or o.sums k nan ≡ of_row (row_sum p) b k = λ k l. o.invariant.1.done k (omega arith) in
    let I : c.of_rows.result.«data» ≡ filled_to (λ i. index6 p (pixel_at b i)) 16 = c.of_rows.ensures ∙ rw (code 0 (omega arith), code 1 (omega arith), code 2 (omega arith), code 3 (omega arith)) (rows_code p b) in
    indexed_is c.of_rows.result _ _ _ I
    (rw (sum 0 (omega arith), sum 1 (omega arith), sum 2 (omega arith), sum 3 (omega arith)) (rows_sum p b ∙ sum_abs (λ i. off6 p (pixel_at b i))))
