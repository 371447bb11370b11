-- The candidates as the Rust lists them, pair by pair, for reading beside it. That `round` of Rounds and `high_to` of Refining go through exactly
-- these is `round_listed_lem` and `high_listed_lem` in proofs/.
use mathlib.Core.List.{List, [], ◌∷◌, foldl}
use Rattle.std.specs.Prelude.{Bool, Float}
use Rattle.std.specs.Float.Ieee.{neg}
use Rattle.floats.specs.Arithmetic.{◌⊕◌, ◌⊖◌, f0}
use Rattle.floats.specs.Helpers.{clamp_of}
use Rattle.floats.specs.declared.Pair.{Pair}
use Rattle.palette.specs.declared.Kind.{Kind}
use Rattle.end_points.specs.EndPoints.{quantized}
use Rattle.refine.specs.declared.rounds.Held.{Held}
use Rattle.refine.specs.Rounds.{tried}
use Rattle.refine.specs.Refining.{quant_step, quantized_pair, held_pair, better_pair}

-- ---- bcn_util.rs, `for_each_endpoint`: for (delta_min, delta_max) in [(step, 0.0), (0.0, step), (-step, 0.0), (0.0, -step)]
abbrev pub deltas : Float → List (Float × Float)
deltas step = (step, f0) ∷ (f0, step) ∷ (neg step, f0) ∷ (f0, neg step) ∷ []

-- let new_min = (min + delta_min).clamp(0.0, 1.0); let new_max = (max + delta_max).clamp(0.0, 1.0);
abbrev pub tried_delta : Kind → List Float → Held → Held → Float × Float → Held
tried_delta kind b start h (delta_min, delta_max) = tried kind b h (clamp_of (start.min ⊕ delta_min)) (clamp_of (start.max ⊕ delta_max))

abbrev pub round_listed : Kind → List Float → Held → Float → Held
round_listed kind b start step = foldl (tried_delta kind b start) start (deltas step)

-- ---- bc4.rs, `HighQuality`: for pair in [(min + QUANT_STEP, max), (min, max - QUANT_STEP), (min + QUANT_STEP, max - QUANT_STEP)]
abbrev pub closer_pairs : Float → Float → List (Float × Float)
closer_pairs min max = (min ⊕ quant_step, max) ∷ (min, max ⊖ quant_step) ∷ (min ⊕ quant_step, max ⊖ quant_step) ∷ []

-- let q = EndPoints::quantize(pair, options.snorm); the better of it and what is held
abbrev pub tried_pair : Kind → List Float → Bool → Held → Float × Float → Held
tried_pair kind b snorm h (e0, e1) = better_pair kind b h (quantized e0 e1 snorm)

abbrev pub high_listed : Kind → List Float → Bool → Pair → Held
high_listed kind b snorm p = foldl (tried_pair kind b snorm) (held_pair kind b (quantized_pair snorm p)) (closer_pairs p.0 p.1)
