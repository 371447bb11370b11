-- Dithering a block by any rule that answers a sample: pixel by pixel, the error so far added to each. bcn_util.rs and bc4.rs, `block_dither`.
-- A dithered sample may leave 0..1; four-value `closest` then has a negative error.
use Rattle.std.specs.Prelude.{List, ℕ, zero, suc, Float}
use Rattle.floats.specs.Arithmetic.{◌⊕◌, ◌⊖◌, squared, f0}
use Rattle.block.specs.Samples.{pixel_at, per_pixel}
use Rattle.index_list.specs.Indexes.{set_at}
use Rattle.palette.specs.declared.Closest.{Closest}
use Rattle.palette.specs.declared.Indexed.{Indexed}
use Rattle.bcn_util.specs.Diffusion.{diffused}

-- after some pixels: the error map, and the indexes with the sum of squared errors
pub record Dithered : Type 0 where
  pub map : List Float
  pub done : Indexed

-- one pixel more: its index, and its error squared
unfoldable pub dither_step : (Float → Closest) → List Float → Dithered → ℕ → Dithered
dither_step rule b s i =
    let pixel = pixel_at b i ⊕ pixel_at s.map i in
    let c = rule pixel in
    record {
      map = diffused s.map i (pixel ⊖ c.value);
      done = record { indexes = record { «data» = set_at s.done.indexes.«data» i c.index }; error = s.done.error ⊕ squared c.error };
    }

unfoldable pub dither_to : (Float → Closest) → List Float → ℕ → Dithered
dither_to rule b zero = record { map = per_pixel (λ i. f0); done = record { indexes = record { «data» = 0 }; error = f0 } }
dither_to rule b (suc n) = dither_step rule b (dither_to rule b n) n

abbrev pub block_dither : (Float → Closest) → List Float → Indexed
block_dither rule b = (dither_to rule b 16).done
