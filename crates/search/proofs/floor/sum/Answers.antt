use mathlib.Core.Path.{ap, ◌∙◌}
use mathlib.Core.List.{List}
use Prim.Native.Nat.{ℕ}
use lib.Ieee.{Float, nan}
use Rattle.std.proofs.Common.{rules}
use Rattle.block.specs.Samples.{pixel_at}
use Rattle.block.specs.Orders.{sum_in_order}
use Rattle.block.proofs.Made.{made}
use Rattle.search.specs.Floor.{beyond, at_least, floor_of}
use Rattle.search.proofs.floor.sum.Goals as goal

abbrev term : List Float → Float → Float → ℕ → Float
term b low high i = at_least (beyond low high (pixel_at b i)) (pixel_at b i)

pub returns : goal.returns
unfolding floor_of
returns c =
    let a = c.args in
    c.sum_in_order.ensures ∙ ap sum_in_order (made _ _ (term a.b.now a.low a.high) 16 (λ i y q l k. search rules) nan _ c.from_fn.ensures.items)
