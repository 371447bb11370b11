-- What the exhaustive search goes through, for demand 3: pairs of bytes, each in both modes, with the palette error that is compared.
-- Document 01, "Encoder steps".
use Rattle.std.specs.Prelude.{◌≡◌, List, false, ℕ, ◌<◌, ◌≤◌, Float}
use Rattle.block.specs.Block.{smallest, largest}
use Rattle.end_points.specs.declared.EndPoints.{EndPoints}
use Rattle.end_points.specs.EndPoints.{of_bytes}
use Rattle.palette.specs.declared.Kind.{Kind}
use Rattle.palette.specs.declared.Kind.TheVariants.{Six, Four}
use Rattle.palette.specs.PaletteError.{palette_error}
use Rattle.coding.specs.Coding.{ended}
use Rattle.search.specs.Search.{min_limit, least_max}

-- min from 0 up to but not including (largest·255 + 2), max from the larger of (smallest·255 - 1) and min + 1 to 255
pub record Covered (b : List Float) (min max : ℕ) : Type 0 where
  pub min_below : min < min_limit (largest b)
  pub max_from : least_max (smallest b) ≤ max
  pub apart : min < max
  pub max_to : max ≤ 255

-- the pair in a mode: six values want c0 above c1, four the other order
abbrev pub ends_of : Kind → ℕ → ℕ → EndPoints
ends_of Six min max = of_bytes max min false
ends_of Four min max = of_bytes min max false

-- the palette error of the floats of its bytes
abbrev pub pair_error : Kind → List Float → ℕ → ℕ → Float
pair_error kind b min max = palette_error kind b (ends_of kind min max).c0_f (ends_of kind min max).c1_f

-- the block: both bytes, and for each sample the index of the closest value
abbrev pub pair_bytes : Kind → List Float → ℕ → ℕ → ℕ
pair_bytes kind b min max = (ended kind b false (ends_of kind min max)).bytes

-- n is the block of a covered pair in a mode
pub record OfPair (b : List Float) (n : ℕ) : Type 0 where
  pub kind : Kind
  pub min : ℕ
  pub max : ℕ
  pub covered : Covered b min max
  pub bytes : n ≡ pair_bytes kind b min max
