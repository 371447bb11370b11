-- `encode_stretch` meets its contract: the channel of each block goes to its place in the stretch.
use mathlib.Core.Path.{◌≡◌, refl, sym, ap, ◌∙◌}
use mathlib.Core.List.{List}
use Prim.Native.Nat.{ℕ, ◌+◌, ◌*◌, ◌-◌, ◌≤◌}
use native.Mathlib.Nat.{mul-le-mul}
use native.Mathlib.Omega.{arith}
use lib.ListN.{length, take, drop}
use Rattle.place.specs.Place.{along, bc5_size, block_at}
use Rattle.place.proofs.Places.{fits, first_row, size_good}
use Rattle.place.proofs.Joined.{grown_start, grown_rest, grown_step}
use Rattle.tile.specs.Tile.{block_bytes, block_in, laid_in}
use Rattle.tile.proofs.Blocks.{block_inside, laid_in_length}
use Rattle.tile.proofs.channel.Channel.encode_stretch.Invariants.{piece}
use Rattle.std.proofs.Common.{rules}
use Rattle.tile.proofs.channel.Channel.encode_stretch.Goals as goal

pub loop-column-init : goal.loop-column-init
loop-column-init c = (search rules, grown_start)

pub block_at-at-requires : goal.block_at-at-requires
block_at-at-requires c =
    let a = c.args.self.now in
    let sides = size_good _ _ a.size.good in
    let short = sides.0.short in
    let r : block_at a.block a.size.width c.loop-column.column 0 ≡ c.loop-column.column * a.block = first_row _ _ _ in
    let most = fits c.loop-column.column (along a.size.width) a.block (search rules) in
    let blocks : along a.size.width ≤ 256 = omega arith in
    let all = mul-le-mul {n₁ = along a.size.width} {m₁ = a.block} {n₂ = 256} {m₂ = bc5_size} blocks a.short in
    (omega arith, omega arith)

pub loop-column-preserved : goal.loop-column-preserved
loop-column-preserved c =
    let at = c.block_at-at.result in
    let a = c.args.self.now in
    let column = c.loop-column.column in
    let out = c.loop-column.out in
    let g = c.loop-column.invariant.1 in
    let r : (block_at c.args.self.now.block c.args.self.now.size.width c.loop-column.column 0 ≡ c.loop-column.column * c.args.self.now.block) × (c.loop-column.column * c.args.self.now.block + c.args.self.now.block ≤ along c.args.self.now.size.width * c.args.self.now.block) × (along c.args.self.now.size.width * c.args.self.now.block ≤ 4096) = let a = c.args.self.now in let short = (size_good _ _ a.size.good).0.short in let blocks : along a.size.width ≤ 256 = omega arith in (first_row _ _ _, fits _ _ _ (search rules), mul-le-mul {n₁ = along a.size.width} {m₁ = a.block} {n₂ = 256} {m₂ = bc5_size} blocks c.args.self.now.short) in
    let bytes : ℕ → List ℕ = λ k. block_bytes a.samples.now a.size.width a.options k c.args.row in
    let each : (k : ℕ) → length (piece a.samples.now a.block a.start a.size.width c.args.row a.options c.args.out.now k) ≡ a.block = λ k. laid_in_length c.args.out.now a.block (k * a.block) a.start (bytes k) refl c.args.self.now.within in
    let here : at ≡ column * a.block = omega arith in
    let long : at + a.block - at ≡ a.block = omega arith in
    let lent : take (at + a.block - at) (drop at out) ≡ block_in c.args.out.now a.block (column * a.block) = rw (long, grown_rest each g at here, here) (sym (block_inside c.args.out.now a.block (column * a.block) (omega arith))) in
    let made = c.encode_half.ensures ∙ ap (λ b. laid_in b a.start (bytes column)) lent in
    (search rules, grown_step each g at (at + a.block - at) _ here long made (omega arith))
