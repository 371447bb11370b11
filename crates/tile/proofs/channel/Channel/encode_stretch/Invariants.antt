-- `encode_stretch` meets its contract: the channel of each block goes to its place in the stretch.
use mathlib.Core.List.{List}
use Prim.Native.Nat.{ℕ, ◌*◌, ◌≤◌}
use lib.Ieee.{Float}
use Rattle.options.specs.declared.Options.{Options}
use Rattle.place.specs.Place.{along}
use Rattle.place.proofs.Joined.{Grown}
use Rattle.tile.specs.Tile.{block_bytes, block_in, laid_in}
use Rattle.tile.proofs.channel.Channel.encode_stretch.Given as goal

-- block k of the stretch once its channel is in it
abbrev pub piece : List Float → ℕ → ℕ → ℕ → ℕ → Options → List ℕ → ℕ → List ℕ
piece samples size start width row o out₀ k = laid_in (block_in out₀ size (k * size)) start (block_bytes samples width o k row)

abbrev pub invariant-loop-column : goal.invariant-loop-column
invariant-loop-column l = (l.column ≤ along l.self.size.width) × Grown (piece l.self.samples.now l.self.block l.self.start l.self.size.width l.row l.self.options l.initial.out) l.self.block l.initial.out l.out l.column
