-- `replay::main` is safe: each turn adds at most 860 records.
use Rattle.std.proofs.Common.{◌≡◌, ◌*◌, ◌≤◌, length}
use Rattle.replay.proofs.main.Given as goal

abbrev pub invariant-loop-turn : goal.invariant-loop-turn
invariant-loop-turn l = (length l.input ≡ 65360) × (l.tally.records ≤ 860 * l.turn) × (l.tally.differ ≤ l.tally.records)
