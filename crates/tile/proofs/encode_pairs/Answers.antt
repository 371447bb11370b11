-- `encode_pairs` meets its contract: each block of the second pass is what the first pass left there.
use mathlib.Core.Path.{◌≡◌, refl, ap, ◌∙◌}
use mathlib.Core.Bool.{false}
use mathlib.Core.List.{List, ◌++◌}
use Prim.Native.Nat.{ℕ, ◌<◌}
use native.Mathlib.Omega.{arith}
use lib.ListN.{length, drop, length-append}
use lib.Seq.{drop_at}
use lib.Ieee.{Float}
use Rattle.options.specs.declared.Options.{Options}
use Rattle.place.specs.Place.{bad_size, along, bc4_size, bc5_size, encoded_length, block_at, all_bytes}
use Rattle.place.proofs.Places.{rows_length, block_within}
use Rattle.place.proofs.Joined.{in_first, all_ext, all_length, block_stands}
use Rattle.tile.specs.Tile.{block_bytes, pair_bytes, block_in, laid_in, channel_block}
use Rattle.tile.proofs.Blocks.{block_length, block_inside, laid_in_length, two_laid}
use Rattle.tile.proofs.encode_pairs.Goals as goal

module _ (first second : List Float) (width height : ℕ) (o : Options) (old : List ℕ) where
  -- the first pass leaves `done ++ rest`
  abbrev block : ℕ → ℕ → List ℕ
  block = channel_block first bc5_size 0 width o old

  abbrev done : List ℕ
  done = all_bytes block width height

  abbrev rest : List ℕ
  rest = drop (encoded_length bc5_size width height) old

  each : (column row : ℕ) → length (block column row) ≡ bc5_size
  each column row = laid_in_length old bc5_size (block_at bc5_size width column row) 0 (block_bytes first width o column row) refl (omega arith)

  -- what the second pass leaves of that
  abbrev again : List ℕ → List ℕ
  again out = all_bytes (channel_block second bc5_size bc4_size width o out) width height ++ drop (encoded_length bc5_size width height) out

  both : bad_size width height ≡ false → again (done ++ rest) ≡ all_bytes (pair_bytes first second width o) width height ++ rest
  both good = rw (all_ext _ _ width height pair, drop_at done rest (encoded_length bc5_size width height) long) where
    long : length done ≡ encoded_length bc5_size width height
    long = all_length block bc5_size width each height ∙ rows_length width height good bc5_size

    pair : (column row : ℕ) → column < along width → row < along height → channel_block second bc5_size bc4_size width o (done ++ rest) column row ≡ pair_bytes first second width o column row
    pair column row h k =
        let at = block_at bc5_size width column row in
        let within = block_within width height good bc5_size column row h k in
        let left : block_in (done ++ rest) bc5_size at ≡ block column row = block_inside (done ++ rest) bc5_size at (simp length-append (omega (arith, long))) ∙ in_first done rest bc5_size at (omega (arith, long)) ∙ block_stands block bc5_size width each height column row h k in
        ap (λ b. laid_in b bc4_size (block_bytes second width o column row)) left ∙ two_laid (block_in old bc5_size at) (block_bytes first width o column row) (block_bytes second width o column row) refl (block_length old bc5_size at)

pub returns : goal.returns
returns c =
    let a = c.args in
    c.encode-2.ensures
    ∙ ap (again a.first.now a.second.now a.size.width a.size.height a.options a.out.now) c.encode.ensures
    ∙ both a.first.now a.second.now a.size.width a.size.height a.options a.out.now a.size.good
