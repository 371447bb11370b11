-- The literals, each computed.
use mathlib.Core.Path.{refl}
use lib.Ieee.{of_bits, of_int, add, sub, mul, div, round}
use Rattle.bcn_util.proofs.DitherLaws.{weights_are}
use Rattle.demands.specs.Literals.{Literals}

pub literals : Literals
unfolding of_bits of_int add sub mul div round
literals = record {
  nought = refl;
  one = refl;
  two = refl;
  seven = refl;
  signed_steps = refl;
  unsigned_steps = refl;
  one_half = refl;
  one_quarter = refl;
  nudge_part = refl;
  step_initial = (refl, refl);
  fifths = (refl, refl, refl, refl);
  f32_epsilon_lem = refl;
  max_distance_lem = (refl, refl);
  step_min = (refl, refl);
  quant_step_lem = refl;
  min_value = refl;
  bc4_epsilon_lem = refl;
  one_seventh = (refl, refl);
  sevenths = (refl, refl, refl, refl, refl);
  one_sixteenth = refl;
  dither_weights = weights_are;
  no_fraction = refl;
  floor_margin = refl;
}
