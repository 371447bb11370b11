use Rattle.refusal.specs.Refusals.{encode_checks}
use Rattle.refusal.proofs.Firsts.{no_value, word_last}
use Rattle.bc4.proofs.word.encode_block.Goals as goal

pub returns-then-w : goal.returns-then-w
returns-then-w c =
    let a = c.args in
    rw (word_last (encode_checks a.samples.now) _, c.if-w.true, c.or_malformed.ensures, c.encode.ensures, no_value)

pub returns : goal.returns
returns c = let a = c.args in rw (word_last (encode_checks a.samples.now) _, c.if-w.false) c.encode_block.ensures
