use borrow.Author.Tests.{eq-eqb, le-ltb}
use Rattle.refusal.specs.Refusals.{first_of, size_checks}
use Rattle.refusal.proofs.Firsts.{handed_on, refused_first, passed_first}
use Rattle.refusal.proofs.tile.Goals as goal

pub returns-in_err-size-clause-refusal : goal.returns-in_err-size-clause-refusal
returns-in_err-size-clause-refusal c = refused_first (size_checks _ _) _ c.from_residual.result c.from_residual.ensures.1 c.in_err-size.ensures.refusal

pub returns-in_err-no_tile_nan-clause-refusal : goal.returns-in_err-no_tile_nan-clause-refusal
unfolding first_of
returns-in_err-no_tile_nan-clause-refusal c =
    rw (handed_on c.from_residual-in_err-no_tile_nan.result c.from_residual-in_err-no_tile_nan.ensures.1, ← passed_first (size_checks _ _) _ c.in_ok-size.ensures.refusal, ← c.in_ok-size.ensures.size.0, ← c.in_ok-size.ensures.size.1, ← c.encoded_length.ensures, ← c.area.ensures, eq-eqb _ _ c.if-samples-area.false, le-ltb _ _ c.if-room-encoded_length.false)
    c.in_err-no_tile_nan.ensures
