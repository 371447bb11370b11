-- `lines::line` meets its contract, case by case.
use mathlib.Core.Path.{◌≡◌, sym, ap, ◌∙◌}
use mathlib.Core.List.{List}
use Prim.Native.Nat.{ℕ, ◌<◌}
use lib.Dec.{lit<}
use Rattle.refusal.specs.declared.Refusal.{Refusal}
use Rattle.refusal.specs.Refusals.{refusal_in, number_of, encode_checks, and_word}
use Rattle.refusal.proofs.Firsts.{refusal_of, first_among}
use Rattle.std.specs.declared.result.Result.TheVariants.{Err}
use Rattle.lines.specs.Input.{record_word, samples_of}
use Rattle.lines.specs.Answers.{answer_of, line_of}
use Rattle.lines.proofs.line.Goals as goal

-- A record is refused by one of the checks of the block call by word: 2, 7 and 8.
one-digit : (bytes : List ℕ) (q : Refusal) → answer_of bytes ≡ Err q → number_of q < 10
one-digit bytes q e =
    first_among (λ p. number_of p < 10) (and_word (encode_checks (samples_of bytes)) (record_word bytes).malformed) (lit< tt, (lit< tt, (lit< tt, tt)))
    (sym (refusal_of _ _) ∙ ap refusal_in e)

pub refused-requires : goal.refused-requires
refused-requires c = rw c.number.ensures (one-digit c.args.record.now _ (sym c.answer_to.ensures ∙ c.in-Err.is))

pub returns-in-Ok : goal.returns-in-Ok
unfolding line_of
returns-in-Ok c = rw (← c.answer_to.ensures, c.in-Ok.is, ← c.hex.ensures) c.put.ensures

pub returns-in-Err : goal.returns-in-Err
unfolding line_of
returns-in-Err c = rw (← c.answer_to.ensures, c.in-Err.is, ← c.number.ensures, ← c.refused.ensures) c.put-in-Err.ensures
