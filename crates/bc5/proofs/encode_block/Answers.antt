use mathlib.Core.Path.{sym}
use native.Mathlib.Omega.{arith}
use Rattle.place.proofs.Samples.{block_of_whole}
use Rattle.bc5.specs.Checks.{nan_checks}
use Rattle.refusal.proofs.Firsts.{passes}
use Rattle.bc5.proofs.Counts.{BothSixteen, both_sixteen}
use Rattle.std.proofs.Common.{rules}
use Rattle.bc5.proofs.encode_block.Goals as goal

pub gather-a-requires : goal.gather-a-requires
gather-a-requires c = let both : BothSixteen c.args.first.now c.args.second.now = let a = c.args in both_sixteen a.first.now a.second.now (nan_checks a.first.now a.second.now) (sym (passes _ c.in_ok-encode.ensures)) in (search rules, omega arith)

pub gather-b-requires : goal.gather-b-requires
gather-b-requires c = let both : BothSixteen c.args.first.now c.args.second.now = let a = c.args in both_sixteen a.first.now a.second.now (nan_checks a.first.now a.second.now) (sym (passes _ c.in_ok-encode.ensures)) in (search rules, omega arith)

pub returns : goal.returns
returns c =
    let both : BothSixteen c.args.first.now c.args.second.now = let a = c.args in both_sixteen a.first.now a.second.now (nan_checks a.first.now a.second.now) (sym (passes _ c.in_ok-encode.ensures)) in
    rw (← c.in_ok-encode.ensures, c.compress_bc4_block.ensures, c.compress_bc4_block-2.ensures, c.gather-a.ensures, c.gather-b.ensures, block_of_whole _ both.0, block_of_whole _ both.1)
