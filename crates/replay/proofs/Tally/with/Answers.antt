-- `replay::Tally::with`: an entry that differs adds one.
use Rattle.std.proofs.Common.{◌≡◌, ◌/◌, rules, arith, ap, ap₂, ◌∙◌, ℕ, [], length, get_or}
use Rattle.replay.specs.Entry.{differs_of, entry_at, differing_to, tallied}
use Rattle.lines.proofs.Laws.{chunk_at}
use Rattle.replay.proofs.Tallies.{differing_more, differing_le}
use Rattle.replay.proofs.Tally.with.Goals as goal
use Rattle.replay.proofs.Tally.with.Goals.{then-differs+in_ok-writeln, else-differs}

pub loop-entry-init : goal.loop-entry-init
unfolding differing_to
loop-entry-init g c = search rules

pub overflow_add-tally : goal.overflow_add-tally
overflow_add-tally g c = let some = differing_le c.args.input.now c.loop-entry.entry-index in omega (arith, some, c.as_chunks.ensures.front_len)

pub loop-entry-preserved : goal.loop-entry-preserved
loop-entry-preserved g c =
    let l = c.loop-entry in
    let input = c.args.input.now in
    let entry : get_or c.as_chunks.result.0.now l.entry-index [] ≡ entry_at input l.entry-index = rw c.as_chunks.ensures.front (chunk_at 76 input _ l.entry-index (omega arith)) in
    let found : c.differs.result ≡ differs_of (entry_at input l.entry-index) = c.differs.ensures ∙ ap differs_of entry in
    elim c.if-differs.branch [
      | then-differs+in_ok-writeln w ↦ rw (w.tally-is, differing_more, ← found, w.if-differs.true) (omega arith, omega arith)
      | else-differs w ↦ rw (w.tally-is, differing_more, ← found, w.if-differs.false) (omega arith, omega arith)
    ]

pub returns : goal.returns
unfolding tallied
returns g c =
    let l = c.loop-entry in
    let all : l.entry-index ≡ length c.args.input.now / 76 = omega (arith, c.as_chunks.ensures.front_len) in
    let at_end = rw all at l.invariant in
    ap₂ (λ (r d : ℕ). record { records = r; differ = d }) at_end.0 at_end.1
