-- `replay::differs` meets its contract, case by case.
use Rattle.std.proofs.Common.{refl}
use Rattle.replay.specs.Entry.{unlike, differs_of}
use Rattle.replay.proofs.differs.Goals as goal

pub returns-in-Ok : goal.returns-in-Ok
unfolding differs_of unlike
returns-in-Ok c =
    let first = rw c.unwrap-record.ensures at c.first_chunk.ensures.cases in
    rw (← first.same, ← c.answer_to.ensures, c.in-Ok.is, c.rust.ensures) refl

pub returns-in-Err : goal.returns-in-Err
unfolding differs_of unlike
returns-in-Err c =
    let first = rw c.unwrap-record.ensures at c.first_chunk.ensures.cases in
    rw (← first.same, ← c.answer_to.ensures, c.in-Err.is) refl
