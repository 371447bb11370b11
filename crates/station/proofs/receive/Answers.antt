-- `station::receive` meets its contract: what its place holds answers the message, and takes it where it is news.
use mathlib.Core.Path.{◌≡◌, sym}
use Prim.Native.Nat.{◌+◌, ◌-◌}
use native.Mathlib.Omega.{arith}
use lib.ListN.{length-take, length-drop}
use Rattle.place.specs.Place.{bc4_size}
use Rattle.refusal.proofs.Firsts.{handed_on, passes, refused_before, passed_before}
use Rattle.station.specs.Receiving.{shape_checks}
use Rattle.station.proofs.Room.{room as message_room}
use Rattle.station.proofs.receive.Goals as goal

pub block_at-at-requires : goal.block_at-at-requires
block_at-at-requires c = let r = (message_room _ _ _ _ _ _ _ (sym (passes _ c.in_ok-message.ensures))) in (r.few, omega (arith, r.bytes, r.small))

pub block_at-entry-requires : goal.block_at-entry-requires
block_at-entry-requires c = let r = (message_room _ _ _ _ _ _ _ (sym (passes _ c.in_ok-message.ensures))) in (r.few, omega (arith, r.few))

pub bounds-editions-entry : goal.bounds-editions-entry
bounds-editions-entry c = let r = (message_room _ _ _ _ _ _ _ (sym (passes _ c.in_ok-message.ensures))) in rw c.block_at-entry.ensures r.entry

pub overflow_add-at : goal.overflow_add-at
overflow_add-at c = let r = (message_room _ _ _ _ _ _ _ (sym (passes _ c.in_ok-message.ensures))) in omega (arith, r.bytes, r.small, c.block_at-at.ensures)

pub slice_bounds-received-end : goal.slice_bounds-received-end
slice_bounds-received-end c = let r = (message_room _ _ _ _ _ _ _ (sym (passes _ c.in_ok-message.ensures))) in omega (arith, r.bytes, c.block_at-at.ensures)

pub received-requires : goal.received-requires
received-requires c =
    let r = (message_room _ _ _ _ _ _ _ (sym (passes _ c.in_ok-message.ensures))) in
    (simp (length-take, length-drop) (omega (arith, r.bytes, c.block_at-at.ensures)), r.eight)

pub put-requires : goal.put-requires
put-requires c = (let r = (message_room _ _ _ _ _ _ _ (sym (passes _ c.in_ok-message.ensures))) in (r.eight, rw c.block_at-at.ensures r.bytes, r.small, rw c.block_at-entry.ensures r.entry))

pub returns-in_err-message-clause-answer : goal.returns-in_err-message-clause-answer
returns-in_err-message-clause-answer c =
    rw (handed_on c.from_residual.result c.from_residual.ensures.1, refused_before (shape_checks _ _ _ _ _ _ _) _ (sym c.in_err-message.ensures))

pub returns-in_err-received-clause-answer : goal.returns-in_err-received-clause-answer
returns-in_err-received-clause-answer c =
    let more : c.block_at-at.result + bc4_size - c.block_at-at.result ≡ bc4_size = omega arith in
    rw (
      handed_on c.from_residual-in_err-received.result c.from_residual-in_err-received.ensures.1,
      passed_before (shape_checks _ _ _ _ _ _ _) _ (sym (passes _ c.in_ok-message.ensures)),
      ← c.block_at-at.ensures,
      ← c.block_at-entry.ensures,
    )
    (rw more at c.in_err-received.ensures)

pub returns-then-changes-clause-answer : goal.returns-then-changes-clause-answer
returns-then-changes-clause-answer c =
    let more : c.block_at-at.result + bc4_size - c.block_at-at.result ≡ bc4_size = omega arith in
    rw (passed_before (shape_checks _ _ _ _ _ _ _) _ (sym (passes _ c.in_ok-message.ensures)), ← c.block_at-at.ensures, ← c.block_at-entry.ensures)
    (rw more at c.in_ok-received.ensures)

pub returns-else-changes-clause-answer : goal.returns-else-changes-clause-answer
returns-else-changes-clause-answer c =
    let more : c.block_at-at.result + bc4_size - c.block_at-at.result ≡ bc4_size = omega arith in
    rw (passed_before (shape_checks _ _ _ _ _ _ _) _ (sym (passes _ c.in_ok-message.ensures)), ← c.block_at-at.ensures, ← c.block_at-entry.ensures)
    (rw more at c.in_ok-received.ensures)
