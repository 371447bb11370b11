-- How the answers of `station` cross to C: what became of a message, as a number. A refused call leaves it as it was.
use Rattle.exports.specs.Border.{after}
use Rattle.std.specs.Prelude.{ℕ}
use Rattle.refusal.specs.Refusals.{Answer}
use Rattle.station.specs.declared.Received.{Received}
use Rattle.station.specs.declared.Received.TheVariants.{Taken, Repeated, Replaced, Old}

abbrev pub outcome_number : Received → ℕ
outcome_number Taken = 1
outcome_number Repeated = 2
outcome_number Replaced = 3
outcome_number Old = 4

abbrev pub outcome_after : Answer Received → ℕ → ℕ
outcome_after = after outcome_number
