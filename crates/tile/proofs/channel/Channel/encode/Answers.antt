-- `encode_channel` meets its contract: each row of blocks has its own stretch, which ends where the next row's begins.
use mathlib.Core.Path.{◌≡◌, refl, ap, ◌∙◌}
use mathlib.Core.List.{List}
use Prim.Native.Nat.{ℕ, ◌*◌, ◌-◌, ◌<◌, ◌≤◌}
use native.Mathlib.Omega.{arith}
use lib.ListN.{take, drop, length-take, length-drop}
use Rattle.place.specs.Place.{longest_side, along, encoded_length, block_at}
use Rattle.place.proofs.Places.{RowRoom, bytes_small, rows_length, row_room}
use Rattle.place.proofs.Joined.{joined_ext, grown_start, grown_rest, grown_step, row_length}
use Rattle.tile.specs.Tile.{block_bytes, block_in, laid_in, channel_block}
use Rattle.tile.proofs.Blocks.{block_of_row, laid_in_length}
use Rattle.std.proofs.Common.{rules}
use Rattle.tile.proofs.channel.Channel.encode.Goals as goal

pub loop-row-init : goal.loop-row-init
loop-row-init c = (search rules, grown_start)

pub block_at-at-requires : goal.block_at-at-requires
block_at-at-requires c = let r : RowRoom c.args.self.now.block c.args.self.now.size.width c.args.self.now.size.height c.loop-row.row = row_room _ _ c.args.self.now.size.good _ _ (search rules) in let s : encoded_length c.args.self.now.block c.args.self.now.size.width c.args.self.now.size.height ≤ longest_side * longest_side = (bytes_small _ _ c.args.self.now.size.good c.args.self.now.short).1 in (omega arith, omega arith)

pub block_at-end-requires : goal.block_at-end-requires
block_at-end-requires c = let r : RowRoom c.args.self.now.block c.args.self.now.size.width c.args.self.now.size.height c.loop-row.row = row_room _ _ c.args.self.now.size.good _ _ (search rules) in let s : encoded_length c.args.self.now.block c.args.self.now.size.width c.args.self.now.size.height ≤ longest_side * longest_side = (bytes_small _ _ c.args.self.now.size.good c.args.self.now.short).1 in (omega arith, omega arith)

pub slice_bounds-encode_stretch-end : goal.slice_bounds-encode_stretch-end
slice_bounds-encode_stretch-end c = let r : RowRoom c.args.self.now.block c.args.self.now.size.width c.args.self.now.size.height c.loop-row.row = row_room _ _ c.args.self.now.size.good _ _ (search rules) in search rules

pub encode_stretch-requires : goal.encode_stretch-requires
encode_stretch-requires c =
    let r : RowRoom c.args.self.now.block c.args.self.now.size.width c.args.self.now.size.height c.loop-row.row = row_room _ _ c.args.self.now.size.good _ _ (search rules) in
    (omega arith, simp (length-take, length-drop) (omega arith))

pub loop-row-preserved : goal.loop-row-preserved
loop-row-preserved c =
    let r : RowRoom c.args.self.now.block c.args.self.now.size.width c.args.self.now.size.height c.loop-row.row = row_room _ _ c.args.self.now.size.good _ _ (search rules) in
    let at = c.block_at-at.result in
    let many = c.block_at-end.result - at in
    let a = c.args.self.now in
    let old = c.args.out.now in
    let row = c.loop-row.row in
    let out = c.loop-row.out in
    let g = c.loop-row.invariant.1 in
    let bytes : ℕ → ℕ → List ℕ = block_bytes a.samples.now a.size.width a.options in
    let each = row_length (channel_block a.samples.now a.block a.start a.size.width a.options old) a.block a.size.width (λ column row. laid_in_length old a.block (block_at a.block a.size.width column row) a.start (bytes column row) refl c.args.self.now.within) in
    let here : at ≡ row * (along a.size.width * a.block) = omega (arith, r.start) in
    let long : many ≡ along a.size.width * a.block = omega arith in
    let lent : (column : ℕ) → column < along a.size.width → block_in (take many (drop at out)) a.block (column * a.block) ≡ block_in old a.block (block_at a.block a.size.width column row) = λ column h. rw (grown_rest each g at here) (block_of_row old a.block a.size.width column row at many h here long (omega arith)) in
    let made = c.encode_stretch.ensures ∙ joined_ext _ _ (along a.size.width) (λ column h. ap (λ b. laid_in b a.start (bytes column row)) (lent column h)) in
    (search rules, grown_step each g at many _ here long made (omega arith))

pub returns : goal.returns
returns c =
    let e : c.loop-row.row ≡ along c.args.self.now.size.height = omega arith in
    c.loop-row.invariant.1.same ∙ rw (e, rows_length _ _ c.args.self.now.size.good c.args.self.now.block)
