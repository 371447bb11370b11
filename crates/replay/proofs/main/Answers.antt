-- `replay::main`: a buffer adds at most 860 records.
use Rattle.std.proofs.Common.{◌≤◌, rules, arith, length, take, length-take}
use Rattle.replay.proofs.Tallies.{tally_most}
use Rattle.replay.proofs.main.Goals as goal

pub loop-turn-preserved : goal.loop-turn-preserved
loop-turn-preserved c =
    let few : length (take c.in_ok-n.n c.fill.new.buf) ≤ 65360 = simp length-take (omega arith) in
    let most = tally_most _ _ _ c.in_ok-tally.ensures few c.loop-turn.invariant.2 in
    (search rules, omega (arith, most.0), most.1)
