-- `lines::text` meets its contract: the lines, and `short` after them where a partial record is left.
use mathlib.Core.List.{append-nil}
use Prim.Native.Nat.{◌/◌}
use native.Mathlib.Omega.{arith}
use lib.ListN.{length}
use Rattle.lines.specs.Answers.{text_of}
use Rattle.lines.proofs.Laws.{put_more, lines_room}
use borrow.Author.Tests.{ne_eqb}
use Rattle.std.proofs.Common.{rules}
use Rattle.lines.proofs.text.Goals as goal

pub returns-then-input-eq0 : goal.returns-then-input-eq0
unfolding text_of
returns-then-input-eq0 c = rw (c.if-input-eq0.true, append-nil) c.lines-at.ensures

pub put-requires : goal.put-requires
put-requires c =
    let input = c.args.input.now in
    let most = lines_room input (length input / 68) c.lines-at.ensures in
    search rules

pub returns : goal.returns
unfolding text_of
returns c =
    let input = c.args.input.now in
    let most = lines_room input (length input / 68) c.lines-at.ensures in
    rw (ne_eqb _ _ c.if-input-eq0.false) (put_more c.lines-at.ensures c.put.ensures (omega arith)).0
