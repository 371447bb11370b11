use Rattle.refusal.specs.Refusals.{resend_checks}
use Rattle.refusal.proofs.Firsts.{no_value, word_last}
use Rattle.bc4.proofs.word.resend.Goals as goal

pub returns-then-w : goal.returns-then-w
returns-then-w c =
    let a = c.args in
    rw (word_last (resend_checks a.samples.now a.held.now a.w.options) _, c.if-w.true, c.or_malformed.ensures, c.resend.ensures, no_value)

pub returns : goal.returns
returns c =
    let a = c.args in
    rw (word_last (resend_checks a.samples.now a.held.now a.w.options) _, c.if-w.false) c.resend-2.ensures
