-- bc4.rs, `refine_endpoints`: a refinement, and then the choice of levels by quality. Document 01, "Encoder steps": for medium and high the
-- errors compared are those of the floats that `quantize` hands back, the larger first.
use Rattle.std.specs.Prelude.{List, Bool, cond, ℕ, zero, suc, ◌%◌, eqb, ltb, Float}
use Rattle.std.specs.Float.Ieee.{neg, lt}
use Rattle.floats.specs.Arithmetic.{◌⊕◌, ◌⊖◌, ◌⊗◌, bits, f0}
use Rattle.floats.specs.Helpers.{abs_of}
use Rattle.floats.specs.declared.Pair.{Pair}
use Rattle.palette.specs.declared.Kind.{Kind}
use Rattle.end_points.specs.EndPoints.{quantized}
use Rattle.refine.specs.declared.rounds.Held.{Held}
use Rattle.options.specs.declared.Options.{Options}
use Rattle.options.specs.declared.Quantization.{Quantization}
use Rattle.options.specs.declared.Quantization.TheVariants.{Round, MediumQuality, HighQuality}
use Rattle.refine.specs.Rounds.{held, better, refined}

-- QUANT_STEP, 1 / 254 + 0.0001: a little over one level of either format
abbrev pub quant_step : Float
quant_step = bits 0x3b84_48e0

-- ---- step 1: 0.1 or 0.15 of the spread first, down to 1 / 255 or half of it
abbrev pub first_part : Bool → Float
first_part fast = cond fast (bits 0x3dcc_cccd) (bits 0x3e19_999a)

abbrev pub first_step : Bool → Float → Float → Float
first_step fast min max = first_part fast ⊗ (max ⊖ min)

abbrev pub least_step : Bool → Float
least_step fast = cond fast (bits 0x3b80_8081) (bits 0x3b00_8081)

-- ---- step 2
abbrev pub quantized_pair : Bool → Pair → Pair
quantized_pair snorm p = quantized p.0 p.1 snorm

abbrev pub held_pair : Kind → List Float → Pair → Held
held_pair kind b p = held kind b p.0 p.1

abbrev pub better_pair : Kind → List Float → Held → Pair → Held
better_pair kind b h p = better kind b h p.0 p.1

-- Medium tries one more pair: the end that rounding moved further, one step on to the side where it lay. Quantised ends come larger first, so
-- that min is compared with the larger.
unfoldable pub other_pair : Pair → Pair → Pair
other_pair p base =
    let min_diff = p.0 ⊖ base.0 in
    let max_diff = p.1 ⊖ base.1 in
    cond (lt (abs_of max_diff) (abs_of min_diff))
    (record { 0 = p.0 ⊕ cond (lt f0 min_diff) quant_step (neg quant_step); 1 = p.1 })
    (record { 0 = p.0; 1 = p.1 ⊕ cond (lt f0 max_diff) quant_step (neg quant_step) })

unfoldable pub medium : Kind → List Float → Bool → Pair → Held
medium kind b snorm p = let base = quantized_pair snorm p in better_pair kind b (held_pair kind b base) (quantized_pair snorm (other_pair p base))

-- High tries three: min one step up, max one step down, and both.
abbrev pub closer_pair : Pair → ℕ → Pair
closer_pair p i = record { 0 = cond (eqb (i % 2) 1) (p.0 ⊕ quant_step) p.0; 1 = cond (ltb 1 i) (p.1 ⊖ quant_step) p.1 }

-- after the first i of them
unfoldable pub high_to : Kind → List Float → Bool → Pair → ℕ → Held
high_to kind b snorm p zero = held_pair kind b (quantized_pair snorm p)
high_to kind b snorm p (suc i) = better_pair kind b (high_to kind b snorm p i) (quantized_pair snorm (closer_pair p (suc i)))

abbrev pub pair_of : Held → Pair
pair_of h = record { 0 = h.min; 1 = h.max }

unfoldable pub quantizing : Quantization → Kind → List Float → Bool → Pair → Pair
quantizing Round kind b snorm p = p
quantizing MediumQuality kind b snorm p = pair_of (medium kind b snorm p)
quantizing HighQuality kind b snorm p = pair_of (high_to kind b snorm p 3)

-- ---- both steps
unfoldable pub refined_ends : Kind → List Float → Pair → Options → Pair
refined_ends kind b p o =
    quantizing o.quantization kind b o.snorm
    (refined kind b (least_step o.fast_iter) o.max_refine_iter (first_step o.fast_iter p.0 p.1) p.0 p.1)
