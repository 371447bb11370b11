use mathlib.Core.Path.{◌≡◌, ◌∙◌, ap}
use Prim.Native.Nat.{◌+◌, ◌-◌}
use native.Mathlib.Omega.{arith}
use Rattle.index_list.specs.Layout.{bytes_of}
use Rattle.encode.specs.Encoder.{compressed}
use Rattle.place.specs.Place.{bc4_size}
use Rattle.tile.specs.Tile.{laid_in}
use Rattle.tile.proofs.channel.Channel.encode_half.Goals as goal

pub returns : goal.returns
unfolding laid_in
returns c =
    let a = c.args.self.now in
    let long : a.start + bc4_size - a.start ≡ bc4_size = omega arith in
    let block = c.compress_bc4_block.ensures ∙ ap (λ b. compressed b a.options) c.gather-b.ensures in
    let made = c.copy_from_slice.ensures.after ∙ c.bytes-e.ensures ∙ ap bytes_of block in
    rw (long, made)
