-- `dds::header::put` meets its contract: field after field goes to its place.
use mathlib.Core.Path.{◌≡◌, refl, ap, ◌∙◌}
use Prim.Native.Nat.{◌+◌, ◌*◌, ◌-◌}
use native.Mathlib.Omega.{arith}
use lib.ListN.{get_or}
use Rattle.fields.specs.Fields.{field_of}
use Rattle.place.proofs.Joined.{grown_start, grown_step}
use Rattle.dds.specs.Layout.{header_of}
use Rattle.dds.proofs.header.put.Goals as goal

pub loop-k-init : goal.loop-k-init
loop-k-init c = grown_start

pub loop-k-preserved : goal.loop-k-preserved
loop-k-preserved c =
    let k = c.loop-k.k in
    let made = c.copy_from_slice.ensures.after ∙ c.bytes_u32.ensures ∙ ap (λ all. field_of 4 (get_or all k 0)) c.fields_of-all.ensures in
    grown_step (λ k. refl) c.loop-k.invariant (4 * k) (4 * k + 4 - 4 * k) _ (omega arith) (omega arith) made (omega arith)

pub returns : goal.returns
unfolding header_of
returns c =
    let e : c.loop-k.k ≡ 32 = omega arith in
    rw e at c.loop-k.invariant.same
