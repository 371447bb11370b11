-- `lines::lines` meets its contract: after i turns the lines of the first i records stand at the start of `out`.
use mathlib.Core.Path.{◌≡◌}
use Prim.Native.Nat.{◌*◌, ◌≤◌}
use lib.ListN.{length}
use Rattle.lines.specs.Answers.{lines_to, AtStart}
use Rattle.lines.proofs.lines.Given as goal

abbrev pub invariant-loop-record : goal.invariant-loop-record
invariant-loop-record l =
    (l.at ≤ l.record-index * 17) × (length l.out ≡ length l.initial.out) × AtStart (lines_to l.input l.record-index) l.initial.out l.out l.at
