-- What document 01 says of the encoder's parts, gathered.
use Rattle.block.proofs.Laws.{entered_unit}
use Rattle.end_points.proofs.Modes.{inter6_order, inter4_order, inter6_sound, inter4_sound}
use Rattle.floats.proofs.Differences.{negative_past_1}
use Rattle.palette.proofs.Outside.{closest4_below, closest4_above}
use Rattle.palette.proofs.SampleError.{closest4_miss, values_real}
use Rattle.bcn_util.proofs.TargetLaws.{diffused_targets}
use Rattle.refine.proofs.Listed.{round_listed_lem, high_listed_lem}
use Rattle.compress.proofs.LoopLaws.{walked_is_loop}
use Rattle.demands.specs.EncoderSteps.{EncoderSteps}

pub encoder_steps : EncoderSteps
encoder_steps = record {
  entry = entered_unit;
  six_order = inter6_order;
  four_order = inter4_order;
  six_sound = inter6_sound;
  four_sound = inter4_sound;
  targets = λ m i error h. diffused_targets m error i h;
  round_list = round_listed_lem;
  high_list = high_listed_lem;
  walk = walked_is_loop;
  four_error = λ c0 c1 x h0 h1. closest4_miss c0 c1 x (values_real c0 c1 h0 h1);
  below_0 = closest4_below;
  above_1 = closest4_above;
  above_1_negative = negative_past_1;
}
