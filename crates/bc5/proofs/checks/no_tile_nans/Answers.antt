use mathlib.Core.Path.{◌∙◌}
use mathlib.Core.List.{[], ◌∷◌}
use Rattle.refusal.specs.declared.Channel.TheVariants.{First, Second}
use Rattle.refusal.specs.Refusals.{tile_nan_in}
use Rattle.refusal.proofs.Firsts.{passes, refused_there, passed_first}
use Rattle.bc5.proofs.checks.no_tile_nans.Goals as goal

pub returns-in_err-no_tile_nan_in : goal.returns-in_err-no_tile_nan_in
returns-in_err-no_tile_nan_in c =
    let a = c.args in
    refused_there (tile_nan_in First a.first.now a.size.width ∷ []) (tile_nan_in Second a.second.now a.size.width ∷ []) c.from_residual.result c.from_residual.ensures.1 c.in_err-no_tile_nan_in.ensures

pub returns : goal.returns
returns c =
    let a = c.args in
    c.no_tile_nan_in-2.ensures ∙ passed_first (tile_nan_in First a.first.now a.size.width ∷ []) (tile_nan_in Second a.second.now a.size.width ∷ []) (passes _ c.in_ok-no_tile_nan_in.ensures)
