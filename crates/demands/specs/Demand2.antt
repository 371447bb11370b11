-- Demand 2: what encode block answers, that each block of a tile is the block call on its own sixteen samples, and how near a decoded sample is to
-- the exact fraction. That `compressed` is the Rust's function is what its definition, read beside the Rust, and the comparison say.
use Rattle.std.specs.Prelude.{◌≡◌, Bool, false, List, ℕ, ◌<◌, length, take, drop, Float}
use Rattle.std.specs.Float.Ieee.{is_nan}
use Rattle.index_list.specs.Layout.{byte_at, bytes_of, from_bytes}
use Rattle.block.specs.Samples.{pixel_at}
use Rattle.options.specs.declared.Options.{Options}
use Rattle.encode.specs.Encoder.{compressed}
use Rattle.decode.specs.Meaning.{block_index}
use Rattle.decode.specs.Exact.{exact_num, exact_den, Close}
use Rattle.place.specs.Place.{along, bc4_size, block_at, block_of}
use Rattle.std.specs.declared.result.Result.TheVariants.{Ok}
use Rattle.bc4.specs.Calls.{encode_answer, samples_after, tile_answer, out_after}

pub record Demand2 : Type 0 where
  -- of sixteen samples, none of them NaN
  pub encoded : (samples : List Float) (o : Options) → length samples ≡ 16 → ((i : ℕ) → i < 16 → is_nan (pixel_at samples i) ≡ false)
      → encode_answer samples o ≡ Ok (compressed samples o)
  -- pixel i of eight bytes, in the array that decode was lent
  pub near : (encoded : List ℕ) (snorm : Bool) (before : List Float) (i : ℕ) → i < 16
      → let n = from_bytes encoded in
      Close (pixel_at (samples_after (Ok tt) encoded snorm before) i) (exact_num snorm (byte_at n 0) (byte_at n 1) (block_index n i)) (exact_den snorm (byte_at n 0) (byte_at n 1))
  -- of a tile that is not refused: the block call accepts each block, and its eight bytes stand at the block's place
  pub tiled : (samples : List Float) (width height : ℕ) (o : Options) (out : List ℕ) (n : ℕ) → tile_answer samples width height (length out) ≡ Ok n
      → (column row : ℕ) → column < along width → row < along height
      → (encode_answer (block_of samples width column row) o ≡ Ok (compressed (block_of samples width column row) o))
      × (take bc4_size (drop (block_at bc4_size width column row) (out_after (Ok n) samples width height o out)) ≡ bytes_of (compressed (block_of samples width column row) o))
