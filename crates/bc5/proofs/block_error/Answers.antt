use mathlib.Core.Path.{◌≡◌, sym}
use mathlib.Core.List.{◌∷◌}
use native.Mathlib.Omega.{arith}
use lib.ListN.{length}
use Rattle.place.specs.Place.{bc5_size}
use Rattle.place.proofs.Samples.{block_of_whole}
use Rattle.refusal.specs.Refusals.{length_check}
use Rattle.bc5.specs.Checks.{nan_checks}
use Rattle.refusal.proofs.Firsts.{passes}
use Rattle.bc5.proofs.Counts.{BothSixteen, both_sixteen, bytes_sixteen}
use Rattle.std.proofs.Common.{rules}
use Rattle.bc5.proofs.block_error.Goals as goal

pub gather-a-requires : goal.gather-a-requires
gather-a-requires c = let both : BothSixteen c.args.first.now c.args.second.now = let a = c.args in both_sixteen a.first.now a.second.now (length_check (length a.encoded.now) bc5_size ∷ nan_checks a.first.now a.second.now) (sym (passes _ c.in_ok-error.ensures)) in (search rules, omega arith)

pub gather-b-requires : goal.gather-b-requires
gather-b-requires c = let both : BothSixteen c.args.first.now c.args.second.now = let a = c.args in both_sixteen a.first.now a.second.now (length_check (length a.encoded.now) bc5_size ∷ nan_checks a.first.now a.second.now) (sym (passes _ c.in_ok-error.ensures)) in (search rules, omega arith)

pub slice_bounds-from_bytes-end : goal.slice_bounds-from_bytes-end
slice_bounds-from_bytes-end c = let l : length c.args.encoded.now ≡ bc5_size = let a = c.args in bytes_sixteen a.first.now a.second.now a.encoded.now (nan_checks a.first.now a.second.now) (sym (passes _ c.in_ok-error.ensures)) in search rules

pub slice_bounds-from_bytes-end-2 : goal.slice_bounds-from_bytes-end-2
slice_bounds-from_bytes-end-2 c = let l : length c.args.encoded.now ≡ bc5_size = let a = c.args in bytes_sixteen a.first.now a.second.now a.encoded.now (nan_checks a.first.now a.second.now) (sym (passes _ c.in_ok-error.ensures)) in search rules

pub returns : goal.returns
returns c =
    let both : BothSixteen c.args.first.now c.args.second.now = let a = c.args in both_sixteen a.first.now a.second.now (length_check (length a.encoded.now) bc5_size ∷ nan_checks a.first.now a.second.now) (sym (passes _ c.in_ok-error.ensures)) in
    rw (← c.in_ok-error.ensures, c.block_error.ensures, c.block_error-2.ensures, c.from_bytes.ensures, c.from_bytes-2.ensures, c.gather-a.ensures, c.gather-b.ensures, block_of_whole _ both.0, block_of_whole _ both.1)
