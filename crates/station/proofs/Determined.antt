-- A promise leaves no choice, for each call of `station`: two outcomes that its contract allows are equal.
use Rattle.refusal.specs.Refusals.{Answer}
use mathlib.Core.Path.{sym, ◌∙◌}
use mathlib.Core.List.{List}
use Prim.Native.Nat.{ℕ}
use Rattle.refusal.proofs.Outcomes.{One-outcome}
use Rattle.station.specs.declared.Received.{Received}
use Rattle.station.proofs.receive.Kinds as receive-kinds
use Rattle.station.proofs.receive.Reads as receive
use Rattle.station.proofs.clear.Kinds as clear-kinds
use Rattle.station.proofs.clear.Reads as clear

-- the answer, every byte of the tile, and every entry of the record
pub receive_determined : One-outcome 3 receive-kinds.ps receive-kinds.r receive.Post (Answer Received × List ℕ × List ℕ) (λ κs x s. (x, s.0.now, s.1.0.now))
receive_determined κs a x y s t p q = cc

pub clear_determined : One-outcome 1 clear-kinds.ps clear-kinds.r clear.Post (List ℕ) (λ κs x s. s.0.now)
clear_determined κs a x y s t p q = p ∙ sym q
