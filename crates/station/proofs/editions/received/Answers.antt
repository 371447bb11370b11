use mathlib.Core.Path.{sym, ◌∙◌}
use borrow.Author.Tests.{ne_eqb}
use Rattle.refusal.specs.Refusals.{first_of}
use Rattle.station.proofs.Cases.{alike_told}
use Rattle.station.proofs.editions.received.Goals as goal

pub returns-then-eq : goal.returns-then-eq
unfolding first_of
returns-then-eq c =
    rw (ne_eqb _ _ c.if-entry-eq0.false, ← c.ahead-steps.ensures, c.if-steps-eq0.true, alike_told _ _ c.requires.0 c.requires.1 _ (sym c.if-eq.true ∙ c.eq.ensures))

pub returns-then-steps-eq0 : goal.returns-then-steps-eq0
unfolding first_of
returns-then-steps-eq0 c =
    rw (ne_eqb _ _ c.if-entry-eq0.false, ← c.ahead-steps.ensures, c.if-steps-eq0.true, alike_told _ _ c.requires.0 c.requires.1 _ (sym c.if-eq.false ∙ c.eq.ensures))
