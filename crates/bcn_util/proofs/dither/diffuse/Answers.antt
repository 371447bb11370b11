use mathlib.Core.Path.{sym}
use borrow.Author.Tests.{lt-ltb, le-ltb}
use Rattle.bcn_util.proofs.DitherLaws.{diffused_above, diffused_last}
use Rattle.bcn_util.proofs.dither.diffuse.Goals as goal

pub returns-then-i-lt12 : goal.returns-then-i-lt12
returns-then-i-lt12 c =
    let a = c.args in
    rw (
      c.give-then-i-lt12-3.ensures,
      c.part-then-i-lt12-3.ensures,
      c.give-then-i-lt12-2.ensures,
      c.part-then-i-lt12-2.ensures,
      c.give-then-i-lt12.ensures,
      c.part-then-i-lt12.ensures,
      c.give.ensures,
      c.part.ensures,
    ) (sym (diffused_above a.m.now a.i a.error (lt-ltb _ _ c.if-i-lt12.true)))

pub returns : goal.returns
returns c =
    let a = c.args in
    rw (c.give-2.ensures, c.part-2.ensures) (sym (diffused_last a.m.now a.i a.error (le-ltb _ _ c.if-i-lt12.false)))
