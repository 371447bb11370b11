-- `replay::Tally::with` meets its contract: after i turns the tally has counted the first i entries, and which of them differ.
use Rattle.std.proofs.Common.{◌≡◌, ◌+◌}
use Rattle.replay.specs.Entry.{differing_to}
use Rattle.replay.proofs.Tally.with.Given as goal

abbrev pub invariant-loop-entry : goal.invariant-loop-entry
invariant-loop-entry g l =
    (l.tally.records ≡ l.initial.tally.records + l.entry-index) × (l.tally.differ ≡ l.initial.tally.differ + differing_to l.input l.entry-index)
