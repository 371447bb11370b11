use borrow.Author.Tests.{eq-eqb, ne_eqb}
use Rattle.place.proofs.Places.{size_small}
use Rattle.refusal.specs.Refusals.{first_of}
use Rattle.refusal.proofs.Firsts.{refused_there, passed_first}
use Rattle.dds.proofs.Headers.{body_near}
use Rattle.std.proofs.Common.{rules}
use Rattle.dds.proofs.reading.Headers.body_length.Goals as goal

pub returns-in_err-size : goal.returns-in_err-size
returns-in_err-size c =
    rw (← c.read_u32-width.ensures, ← c.read_u32-height.ensures)
    (refused_there _ _ c.from_residual.result c.from_residual.ensures.1 c.in_err-size.ensures.refusal)

pub overflow_add-body_at : goal.overflow_add-body_at
overflow_add-body_at c =
    let small = size_small _ _ c.in_ok-size.size.good in
    let near = body_near c.args.self.now.file.now in
    search rules

pub returns-then-self-body_at : goal.returns-then-self-body_at
unfolding first_of
returns-then-self-body_at c =
    let sides = c.in_ok-size.ensures.size in
    rw (← c.read_u32-width.ensures, ← c.read_u32-height.ensures, ← passed_first _ _ c.in_ok-size.ensures.refusal, ← c.body_at.ensures, ← sides.0, ← sides.1, ← c.encoded_length.ensures, ne_eqb _ _ c.if-self-body_at.true)

pub returns : goal.returns
unfolding first_of
returns c =
    let sides = c.in_ok-size.ensures.size in
    rw (← c.read_u32-width.ensures, ← c.read_u32-height.ensures, ← passed_first _ _ c.in_ok-size.ensures.refusal, ← c.body_at.ensures, ← sides.0, ← sides.1, ← c.encoded_length.ensures, eq-eqb _ _ c.if-self-body_at.false)
