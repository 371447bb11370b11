use mathlib.Core.Path.{◌∙◌}
use mathlib.Core.List.{[], ◌∷◌}
use Rattle.refusal.specs.declared.Channel.TheVariants.{First, Second}
use Rattle.refusal.specs.Refusals.{nan_in}
use Rattle.refusal.proofs.Firsts.{passes, refused_there, passed_first}
use Rattle.bc5.proofs.checks.no_nans.Goals as goal

pub returns-in_err-no_nan_in : goal.returns-in_err-no_nan_in
returns-in_err-no_nan_in c =
    let a = c.args in
    refused_there (nan_in First a.first.now ∷ []) (nan_in Second a.second.now ∷ []) c.from_residual.result c.from_residual.ensures.1 c.in_err-no_nan_in.ensures

pub returns : goal.returns
returns c =
    let a = c.args in
    c.no_nan_in-2.ensures ∙ passed_first (nan_in First a.first.now ∷ []) (nan_in Second a.second.now ∷ []) (passes _ c.in_ok-no_nan_in.ensures)
