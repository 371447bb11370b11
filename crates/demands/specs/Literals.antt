-- Every float that a definition gives by its bits is what the Rust's text gives: a number in the text is the float nearest to it, and an expression
-- is worked out in f32 as it is written. Above each stands that text, and where the Rust has it; after `here`, the definition that has the bits
-- without a name for them.
use Rattle.std.specs.Prelude.{◌≡◌, true, false, ℕ, ◌<◌, ◌^◌, get_or, Float}
use Rattle.std.specs.Float.{nan, binary32}
use Rattle.std.specs.Float.Ieee.{round}
use Rattle.floats.specs.Arithmetic.{◌⊕◌, ◌⊖◌, ◌⊗◌, ◌⊘◌, whole, bits, f0, half, f1, f2, f254, f255, f2^23}
use Rattle.block.specs.Block.{bc4_min_value, sixteenth}
use Rattle.palette.specs.Palettes.{f7, seventh, fifth1, fifth2, fifth3, fifth4}
use Rattle.bcn_util.specs.LeastSquares.{f32_epsilon}
use Rattle.bcn_util.specs.Diffusion.{sixteenths, weights}
use Rattle.refine.specs.Refining.{quant_step, first_part, least_step}
use Rattle.compress.specs.Inter6.{nudge, quarter}
use Rattle.compress.specs.Inter4.{max_distance, from_one}
use Rattle.search.specs.Floor.{margin}
use Rattle.single.specs.Single.{bc4_epsilon}
use Rattle.encode.specs.Encoder.{inter6_threshold}

-- The number num / den, rounded to f32: of all floats the nearest, and of two that are equally near the one whose last binary digit is 0. This is
-- what `round` of the checker's library is defined as, and what each operation of f32 does with its exact result.
abbrev pub decimal : ℕ → ℕ → Float
decimal num den = round binary32 false num den

pub record Literals : Type 0 where
  -- ---- numbers
  -- `0.0` and `1.0`, in most functions; Vec4::ZERO and Vec4::ONE
  pub nought : f0 ≡ whole 0
  pub one : f1 ≡ whole 1
  -- `2.`: reference_brute_force
  pub two : f2 ≡ whole 2
  -- `7.0`: Inter6Palette::new, closest_weights4
  pub seven : f7 ≡ whole 7
  -- `254.0`: EndPoints, signed
  pub signed_steps : f254 ≡ whole 254
  -- `255.0`: EndPoints, unsigned. `255.`: reference_brute_force
  pub unsigned_steps : f255 ≡ whole 255
  -- `0.5`: compress_bc4_block, EndPoints, both palettes, step_decay in refine_endpoints
  pub one_half : half ≡ decimal 5 10
  -- `0.25`: compress_inter6
  pub one_quarter : quarter ≡ decimal 25 100
  -- `0.95`: nudge in compress_inter6
  pub nudge_part : nudge ≡ decimal 95 100
  -- `0.1` and `0.15`: step_initial in refine_endpoints
  pub step_initial : (first_part true ≡ decimal 1 10) × (first_part false ≡ decimal 15 100)
  -- `0.2`, `0.4`, `0.6`, `0.8`: Inter4Palette::new
  pub fifths : (fifth1 ≡ decimal 2 10) × (fifth2 ≡ decimal 4 10) × (fifth3 ≡ decimal 6 10) × (fifth4 ≡ decimal 8 10)
  -- `f32::EPSILON`, 2^-23: LeastSquaresWeightMatrix::from_d
  pub f32_epsilon_lem : f32_epsilon ≡ decimal 1 (2 ^ 23)
  -- ---- expressions
  -- `0.125`, MAX_DISTANCE, and `1.0 - MAX_DISTANCE`: inter4_reassign_defaults
  pub max_distance_lem : (max_distance ≡ decimal 125 1000) × (from_one ≡ whole 1 ⊖ decimal 125 1000)
  -- `1. / 255.` and `1. / 255. / 2.`: step_min in refine_endpoints
  pub step_min : (least_step true ≡ whole 1 ⊘ whole 255) × (least_step false ≡ whole 1 ⊘ whole 255 ⊘ whole 2)
  -- `1. / 254. + 0.0001`: QUANT_STEP in refine_endpoints
  pub quant_step_lem : quant_step ≡ whole 1 ⊘ whole 254 ⊕ decimal 1 10_000
  -- `1. / (255. * 7.)`: BC4_MIN_VALUE
  pub min_value : bc4_min_value ≡ whole 1 ⊘ (whole 255 ⊗ whole 7)
  -- `1. / (65536.)`: BC4_EPSILON
  pub bc4_epsilon_lem : bc4_epsilon ≡ whole 1 ⊘ whole 65_536
  -- `1.0 / 7.0`: Inter6Palette::new, closest_weights4. `1. / 7.`: INTER6_THRESHOLD in compress_bc4_block
  pub one_seventh : (seventh ≡ whole 1 ⊘ whole 7) × (inter6_threshold ≡ whole 1 ⊘ whole 7)
  -- `1. / 7.` as above, then `2. / 7.` to `6. / 7.`: FACTORS in Inter6Palette::block_closest_error_sq, here values6
  pub sevenths :
      (bits 0x3e92_4925 ≡ whole 2 ⊘ whole 7) × (bits 0x3edb_6db7 ≡ whole 3 ⊘ whole 7) × (bits 0x3f12_4925 ≡ whole 4 ⊘ whole 7)
      × (bits 0x3f36_db6e ≡ whole 5 ⊘ whole 7) × (bits 0x3f5b_6db7 ≡ whole 6 ⊘ whole 7)
  -- `1.0 / 16.0`: mean in compress_inter6. `1.0 / (color_count as f32)`, of 16: LeastSquaresWeightMatrix::mean
  pub one_sixteenth : sixteenth ≡ whole 1 ⊘ whole 16
  -- `7. / 16.` and the others of block_dither, by the table of sixteenths
  pub dither_weights : (k : ℕ) → k < 20 → get_or weights k nan ≡ whole (get_or sixteenths k 0) ⊘ whole 16
  -- ---- of no text: what the code has besides
  -- 2^23, from which on a float has no fraction
  pub no_fraction : f2^23 ≡ whole (2 ^ 23)
  -- 1 / 4,194,304, of the floors by which the search passes pairs over
  pub floor_margin : margin ≡ whole 1 ⊘ whole 4_194_304
