-- `stream::fill`: what a read put behind the bytes that stood there is what it consumed.
use Rattle.std.proofs.Common.{◌≡◌, ℕ, ◌+◌, ◌-◌, ◌≤◌, List, ◌++◌, rules, arith, length, take, sym, ap, ◌∙◌, subst, le_refl, drop_at, length-take-le}
use Rattle.std.proofs.lemmas.Slice.{take-put_mid_below}
use Rattle.std.specs.Io.KnownBytes.{Consumes}
use Rattle.std.proofs.KnownBytes.{Consumes-trans}
use borrow.Rule.Slice.PartMut.{put_mid, post_of}
use lib.Seq.{take-add, take-append-le}
use Rattle.stream.proofs.fill.Goals as goal

more_read : (at n k : ℕ) (buf part : List ℕ) → at ≤ length buf → n ≤ length part → take at buf ++ take n part ≡ take (at + n) (put_mid at k buf part)
more_read at n k buf part within fits =
    let front = length-take-le at buf within in
    sym (take-add at n (put_mid at k buf part) ∙ rw (take-put_mid_below at k buf part at (le_refl at) within, drop_at (take at buf) (part ++ post_of at k buf) at front) (ap (λ m. take at buf ++ m) (take-append-le n part (post_of at k buf) fits)))

pub loop-done-preserved : goal.loop-done-preserved
loop-done-preserved g c =
    let l = c.loop-done in
    let n = c.in-Ok.n in
    let read = Consumes-trans _ _ _ _ _ l.invariant.2 c.in-Ok.ensures.bytes.0 in
    (search rules, search rules, subst (Consumes _ _) (more_read l.done n (length l.buf - l.done) l.buf c.read.new.buf (omega arith) c.in-Ok.ensures.bound.0) read)
