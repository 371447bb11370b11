use mathlib.Core.Path.{sym}
use borrow.Author.Tests.{lt-ltb, le-ltb}
use Rattle.place.proofs.Places.{size_small}
use Rattle.refusal.specs.Refusals.{first_of, bytes_checks}
use Rattle.refusal.proofs.Firsts.{refused_first, passed_first}
use Rattle.refusal.proofs.Tiles.{bytes_passed}
use Rattle.std.proofs.Common.{rules}
use Rattle.dds.proofs.size_to_write.Goals as goal

pub returns-in_err-size-clause-refusal : goal.returns-in_err-size-clause-refusal
returns-in_err-size-clause-refusal c = refused_first (bytes_checks _ _ _) _ c.from_residual.result c.from_residual.ensures.1 c.in_err-size.ensures.refusal

pub overflow_add-long : goal.overflow_add-long
overflow_add-long c =
    let small = size_small _ _ c.in_ok-size.size.good in
    let long = (bytes_passed _ _ _ _ (sym c.in_ok-size.ensures.refusal)).count in
    search rules

pub returns-then-room-long-clause-refusal : goal.returns-then-room-long-clause-refusal
unfolding first_of
returns-then-room-long-clause-refusal c =
    rw (← passed_first (bytes_checks _ _ _) _ c.in_ok-size.ensures.refusal, ← (bytes_passed _ _ _ _ (sym c.in_ok-size.ensures.refusal)).count, lt-ltb _ _ c.if-room-long.true)

pub returns-clause-refusal : goal.returns-clause-refusal
unfolding first_of
returns-clause-refusal c =
    rw (← passed_first (bytes_checks _ _ _) _ c.in_ok-size.ensures.refusal, ← (bytes_passed _ _ _ _ (sym c.in_ok-size.ensures.refusal)).count, le-ltb _ _ c.if-room-long.false)
