-- Document 01, "Encoder steps": what it says of the encoder's parts beyond their definitions, as one statement.
use Rattle.std.specs.Prelude.{◌≡◌, Bool, true, List, ℕ, ◌<◌, T, Float}
use Rattle.std.specs.Float.{binary32}
use Rattle.std.specs.Float.Ieee.{lt, le, fits}
use Rattle.floats.specs.Arithmetic.{◌⊖◌, squared, f0, f1}
use Rattle.floats.specs.Bounds.{Within}
use Rattle.floats.specs.declared.Pair.{Pair}
use Rattle.values.specs.Values.{byte_below}
use Rattle.block.specs.Block.{entered, InUnit}
use Rattle.end_points.specs.EndPoints.{inter6, inter4, Sound}
use Rattle.palette.specs.declared.Kind.{Kind}
use Rattle.palette.specs.declared.Kind.TheVariants.{Four}
use Rattle.palette.specs.Palettes.{colors, values_of}
use Rattle.palette.specs.PaletteError.{miss}
use Rattle.palette.specs.Closest.{closest4}
use Rattle.bcn_util.specs.Diffusion.{diffused}
use Rattle.bcn_util.specs.Targets.{served}
use Rattle.refine.specs.declared.rounds.Held.{Held}
use Rattle.refine.specs.Rounds.{round}
use Rattle.refine.specs.Refining.{high_to}
use Rattle.refine.specs.Candidates.{round_listed, high_listed}
use Rattle.compress.specs.Inter4.{walked}
use Rattle.compress.specs.LastMove.{None, Loop, looped, held_in}

pub record EncoderSteps : Type 0 where
  -- after entry every sample is in 0..1, whatever it was
  pub entry : (s : List Float) → InUnit (entered s)
  -- The six-value constructor gives c0 above c1 for every two floats, NaN too, and the four-value one c0 below c1, in the format's order.
  pub six_order : (snorm : Bool) (e0 e1 : Float) → byte_below (inter6 e0 e1 snorm).c1 (inter6 e0 e1 snorm).c0 snorm ≡ true
  pub four_order : (snorm : Bool) (e0 e1 : Float) → byte_below (inter4 e0 e1 snorm).c0 (inter4 e0 e1 snorm).c1 snorm ≡ true
  -- no signed byte of theirs is -128, and the floats that go with the bytes are the bytes' own
  pub six_sound : (snorm : Bool) (e0 e1 : Float) → Sound snorm (inter6 e0 e1 snorm)
  pub four_sound : (snorm : Bool) (e0 e1 : Float) → Sound snorm (inter4 e0 e1 snorm)
  -- each pixel's targets and shares are the dither table's, and a share of 0 is not given at all
  pub targets : (m : List Float) (i : ℕ) (error : Float) → i < 16 → diffused m i error ≡ served m i error
  -- the candidates of a round and of high rounding are the Rust's own lists of pairs
  pub round_list : (kind : Kind) (b : List Float) (start : Held) (step : Float) → round kind b start step ≡ round_listed kind b start step
  pub high_list : (kind : Kind) (b : List Float) (snorm : Bool) (p : Pair) → high_to kind b snorm p 3 ≡ high_listed kind b snorm p
  -- the walk of four-value ends is the Rust's loop with its LastMove, from None, for every number of turns, block and state
  pub walk : (b : List Float) (n : ℕ) (s : Loop) → s.last_failed_move ≡ None → held_in (looped b n s) ≡ walked b n (held_in s) s.min_index s.max_index
  -- For an f32 sample in 0..1 and ends in -1..1 the squared error of four-value `closest` is what the sample adds to the palette error of the same ends.
  pub four_error : (c0 c1 x : Float) → Within 1 c0 → Within 1 c1 → T (fits binary32 x) → le f0 x ≡ true → le x f1 ≡ true
      → squared (closest4 (colors c0 c1) x).error ≡ miss (values_of Four c0 c1) x
  -- A dithered sample may leave 0..1; four-value `closest` then has a negative error, and default 6 or 7 wins. For every two ends, NaN too.
  pub below_0 : (c0 c1 x : Float) → lt x f0 ≡ true → closest4 (colors c0 c1) x ≡ record { index = 6; value = f0; error = x }
  pub above_1 : (c0 c1 x : Float) → lt f1 x ≡ true → closest4 (colors c0 c1) x ≡ record { index = 7; value = f1; error = f1 ⊖ x }
  pub above_1_negative : (x : Float) → T (fits binary32 x) → lt f1 x ≡ true → lt (f1 ⊖ x) f0 ≡ true
