-- A promise leaves no choice, for each call of `dds`: two outcomes that its contract allows are equal.
use mathlib.Core.Path.{sym, ◌∙◌}
use mathlib.Core.List.{List}
use Prim.Native.Nat.{ℕ}
use Rattle.refusal.proofs.Outcomes.{One-answer, One-outcome}
use Rattle.refusal.specs.Refusals.{Answer}
use Rattle.dds.proofs.write.Kinds as write-kinds
use Rattle.dds.proofs.write.Reads as write
use Rattle.dds.proofs.read.Kinds as read-kinds
use Rattle.dds.proofs.read.Reads as read
use Rattle.dds.proofs.read_refusal.Kinds as read-refusal-kinds
use Rattle.dds.proofs.read_refusal.Reads as read_refusal_lem
use Rattle.dds.proofs.body.Kinds as body-kinds
use Rattle.dds.proofs.body.Reads as body

-- the answer, and every byte of the output
pub write_determined : One-outcome 2 write-kinds.ps write-kinds.r write.Post (Answer ℕ × List ℕ) (λ κs x s. (x, s.1.1.1.1.0.now))
write_determined κs a x y s t p q = cc

pub read_determined : One-answer 1 read-kinds.ps read-kinds.r read.Post
read_determined κs a x y s t p q = p ∙ sym q

pub refusal_determined : One-answer 1 read-refusal-kinds.ps read-refusal-kinds.r read_refusal_lem.Post
refusal_determined κs a x y s t p q = p ∙ sym q

-- the bytes of the part
pub body_determined : One-outcome 1 body-kinds.ps body-kinds.r body.Post (List ℕ) (λ κs x s. x.now)
body_determined κs a x y s t p q = p ∙ sym q
