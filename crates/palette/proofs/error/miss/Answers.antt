use mathlib.Core.Path.{◌≡◌, ap, ◌∙◌}
use Prim.Native.Nat.{ℕ, suc, ◌<◌}
use native.Mathlib.Numerals.{add-one}
use native.Mathlib.Omega.{arith}
use lib.ListN.{get_or, take, drop}
use lib.Ieee.{nan}
use Rattle.std.proofs.lemmas.List.{get_or-take, get_or-drop}
use Rattle.palette.specs.PaletteError.{least_square_to}
use Rattle.palette.proofs.LeastSquare.{miss_is}
use Rattle.std.proofs.Common.{rules}
use Rattle.palette.proofs.error.miss.Goals as goal

pub loop-value-init : goal.loop-value-init
unfolding least_square_to
loop-value-init c = (search rules, c.squared_distance-least.ensures)

pub loop-value-preserved : goal.loop-value-preserved
unfolding least_square_to
loop-value-preserved c =
    let eight = c.args.eight in
    let i = c.loop-value.value-index in
    let within : i < 7 = search rules in
    let at : get_or (take 7 (drop 1 eight)) i nan ≡ get_or eight (suc i) nan = get_or-take 7 (drop 1 eight) i nan within ∙ get_or-drop 1 eight i nan ∙ ap (λ (k : ℕ). get_or eight k nan) (omega arith) in
    (search rules, rw (c.nearer-least.ensures, c.loop-value.invariant.1, add-one, at))

pub returns : goal.returns
returns c =
    let end : c.loop-value.value-index ≡ 7 = search rules in
    rw (c.loop-value.invariant.1, end, miss_is c.args.eight c.args.pixel)
