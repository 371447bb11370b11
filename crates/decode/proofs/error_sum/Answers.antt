use mathlib.Core.Path.{◌≡◌, refl}
use native.Mathlib.Omega.{arith}
use Prim.Native.Nat.{◌+◌}
use lib.ListN.{length}
use Rattle.decode.specs.BlockError.{error_to}
use Rattle.decode.proofs.Laws.{error_to_more, next_of}
use Rattle.std.proofs.Common.{rules}
use Rattle.decode.proofs.error_sum.Goals as goal

pub loop-s-init : goal.loop-s-init
unfolding error_to
loop-s-init c = (0, search rules, search rules, search rules, refl)

pub loop-s-preserved : goal.loop-s-preserved
loop-s-preserved c =
    let l = c.loop-s.invariant in
    let e = c.in-Some.ensures.steps in
    let s = next_of c.args.samples.now l.0 c.in-Some.s.now c.loop-s.s-iterator.a.rest.now c.next.new.self.a.rest.now l.2 e.0 in
    let v = next_of c.args.values.now l.0 c.in-Some.v.now c.loop-s.s-iterator.b.rest.now c.next.new.self.b.rest.now l.3 e.1 in
    let all : length c.args.samples.now ≡ 16 = search rules in
    (l.0 + 1, omega (arith, s.0, all), s.1, v.1, rw (error_to_more c.args.samples.now c.args.values.now l.0, ← s.2, ← v.2, ← l.4, ← c.sample_error-sum.ensures) refl)
