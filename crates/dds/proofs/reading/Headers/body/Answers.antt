use Rattle.dds.proofs.Headers.{body_within}
use Rattle.std.proofs.Common.{rules, ◌≤◌, length}
use Rattle.dds.proofs.reading.Headers.body.Goals as goal

pub slice_bounds-result-count : goal.slice_bounds-result-count
slice_bounds-result-count c = rw c.body_at.ensures (body_within c.args.self.now.file.now c.args.self.now.whole)

pub slice_bounds-result-start : goal.slice_bounds-result-start
slice_bounds-result-start c =
    let within : c.body_at.result ≤ length c.args.self.now.file.now = rw c.body_at.ensures (body_within c.args.self.now.file.now c.args.self.now.whole) in
    search rules
