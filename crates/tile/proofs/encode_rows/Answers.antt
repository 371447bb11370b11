-- `encode_rows` meets its contract: of a block of eight bytes the pass of its one channel leaves nothing as it was.
use mathlib.Core.Path.{ap, ◌∙◌}
use mathlib.Core.List.{List, ◌++◌}
use Prim.Native.Nat.{ℕ}
use lib.ListN.{drop}
use Rattle.place.specs.Place.{bc4_size, encoded_length, block_at}
use Rattle.place.proofs.Joined.{all_ext}
use Rattle.tile.specs.Tile.{block_bytes}
use Rattle.tile.proofs.Blocks.{block_length, one_laid}
use Rattle.tile.proofs.encode_rows.Goals as goal

pub returns : goal.returns
returns c =
    let a = c.args in
    let old = a.out.now in
    let block : ℕ → ℕ → List ℕ = block_bytes a.samples.now a.size.width a.options in
    let only = all_ext _ block a.size.width a.size.height (λ column row h k. one_laid _ (block column row) (block_length old bc4_size (block_at bc4_size a.size.width column row))) in
    c.encode.ensures ∙ ap (λ bytes. bytes ++ drop (encoded_length bc4_size a.size.width a.size.height) old) only
