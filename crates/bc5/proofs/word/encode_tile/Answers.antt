use lib.ListN.{length}
use Rattle.refusal.proofs.Firsts.{word_last}
use Rattle.bc5.specs.Checks.{tile_checks}
use Rattle.bc5.proofs.word.encode_tile.Goals as goal

pub returns-then-w-clause-answer : goal.returns-then-w-clause-answer
returns-then-w-clause-answer c =
    let a = c.args in
    rw (word_last (tile_checks a.first.now a.second.now a.width a.height (length a.out.now)) _, c.if-w.true, c.or_malformed.ensures, c.tile-checked.ensures.refusal)

pub returns-clause-answer : goal.returns-clause-answer
returns-clause-answer c =
    let a = c.args in
    let e = c.encode_tile.ensures in
    rw (word_last (tile_checks a.first.now a.second.now a.width a.height (length a.out.now)) _, c.if-w.false) e.answer
