-- Document 01's values worked by hand, each computed over the definitions.
use mathlib.Core.Path.{refl}
use lib.Ieee.{of_bits, mul, add, sub, lt, le, ne, to_unsigned}
use Rattle.index_list.specs.Indexes.{filled_to}
use Rattle.end_points.specs.Levels.{apart, levels_between, levels_of}
use Rattle.end_points.specs.EndPoints.{of_bytes, swapped, inter6}
use Rattle.block.specs.Block.{bc4_min_value}
use Rattle.block.proofs.Laws.{threshold_edges}
use Rattle.demands.specs.WorkedValues.{WorkedValues}
use Rattle.demands.proofs.Flat.{flat_0, flat_1, flat_signed_0}

pub worked_values : WorkedValues
unfolding inter6 swapped of_bytes levels_of levels_between apart filled_to of_bits mul add sub lt ne to_unsigned
worked_values = record {
  value_1 = (refl, refl, refl);
  value_2 = (refl, refl);
  value_3 = (refl, refl);
  value_4 = (refl, refl);
  value_5 = (refl, refl);
  value_6 = (refl, refl);
  value_7 = refl;
  value_8 = refl;
  value_9 = λ o e a. rw (flat_0 o e a);
  value_10 = λ o e a. rw (flat_1 o e a);
  value_11 = λ o e. rw (flat_signed_0 o e);
  value_12 = λ b each. threshold_edges b bc4_min_value (unfold le in refl) (unfold le in refl) each;
}
