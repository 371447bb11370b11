-- `lines::lines` meets its contract: after i turns the lines of the first i records stand at the start of `out`.
use mathlib.Core.Path.{◌≡◌, refl, ◌∙◌}
use native.Mathlib.Numerals.{add-one}
use native.Mathlib.Omega.{arith}
use lib.ListN.{get_or}
use Rattle.lines.specs.Answers.{answer_of, record_at, lines_to}
use Rattle.lines.proofs.Laws.{put_more, chunk_at, line_room}
use Rattle.std.proofs.Common.{rules, []}
use Rattle.lines.proofs.lines.Goals as goal

pub loop-record-init : goal.loop-record-init
unfolding lines_to
loop-record-init c = (search rules, refl, record { within = search rules; start = refl; rest = refl })

pub loop-record-preserved : goal.loop-record-preserved
unfolding lines_to
loop-record-preserved c =
    let l = c.loop-record in
    let room = line_room (answer_of (get_or c.as_chunks.result.0.now l.record-index [])) c.line-at.ensures in
    let record_is : get_or c.as_chunks.result.0.now l.record-index [] ≡ record_at c.args.input.now l.record-index = rw c.as_chunks.ensures.front (chunk_at 68 c.args.input.now _ l.record-index (omega arith)) in
    let more = put_more l.invariant.2 c.line-at.ensures (omega arith) in
    (omega arith, more.1 ∙ l.invariant.1, rw (add-one, ← record_is) more.0)
