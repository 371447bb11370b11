-- `encode_channel` meets its contract: each row of blocks has its own stretch, which ends where the next row's begins.
use Prim.Native.Nat.{◌*◌, ◌≤◌}
use Rattle.place.specs.Place.{along, row_bytes}
use Rattle.place.proofs.Joined.{Grown}
use Rattle.tile.specs.Tile.{channel_block}
use Rattle.tile.proofs.channel.Channel.encode.Given as goal

abbrev pub invariant-loop-row : goal.invariant-loop-row
invariant-loop-row l = (l.row ≤ along l.self.size.height) × Grown (row_bytes (channel_block l.self.samples.now l.self.block l.self.start l.self.size.width l.self.options l.initial.out) l.self.size.width) (along l.self.size.width * l.self.block) l.initial.out l.out l.row
