-- A block of one level goes through the encoder as its closest endpoints with index 0.
use mathlib.Core.Path.{◌≡◌, refl}
use mathlib.Core.Bool.{Bool, true, false, not, ◌&&◌}
use mathlib.Core.List.{List}
use lib.Ieee.{Float, of_bits, add, mul, div, sub, lt, of_int, to_unsigned}
use Rattle.floats.specs.Arithmetic.{◌⊖◌, f0, f1}
use Rattle.floats.specs.Helpers.{abs_of}
use Rattle.floats.specs.declared.Pair.{Pair}
use Rattle.end_points.specs.EndPoints.{of_bytes, closest}
use Rattle.block.specs.Samples.{tabulate, per_pixel}
use Rattle.block.specs.Orders.{element}
use Rattle.block.specs.Block.{entered, smallest, largest, min_max}
use Rattle.values.specs.Values.{level_value}
use Rattle.index_list.specs.Indexes.{filled_to}
use Rattle.options.specs.declared.Options.{Options}
use Rattle.single.specs.Single.{bc4_epsilon, uniform, single_color}
use Rattle.encode.specs.Encoder.{searches, middle, encoded, compressed}

pub flat_encoded : (s : List Float) (o : Options) (p : Pair) → min_max (entered s) ≡ p → searches o ≡ false → lt (p.1 ⊖ p.0) bc4_epsilon ≡ true
    → lt (abs_of ((closest (middle p) o.snorm).c0_f ⊖ middle p)) bc4_epsilon ≡ true → compressed s o ≡ uniform (closest (middle p) o.snorm) 0
unfolding compressed encoded single_color
flat_encoded s o p e a b c = rw (e, a, b, c)

-- blocks of 0 and of 1
zeros : min_max (entered (per_pixel (λ i. f0))) ≡ record { 0 = f0; 1 = f0 }
unfolding entered min_max smallest largest element tabulate of_bits lt
zeros = refl

ones : min_max (entered (per_pixel (λ i. f1))) ≡ record { 0 = f1; 1 = f1 }
unfolding entered min_max smallest largest element tabulate of_bits lt
ones = refl

-- the search is unsigned
unsearched : (t : Bool) → t && not true ≡ false
unsearched true = refl
unsearched false = refl

module _ (o : Options) where
  pub flat_0 : o.snorm ≡ false → searches o ≡ false → compressed (per_pixel (λ i. f0)) o ≡ 0
  unfolding closest of_bytes level_value filled_to of_bits of_int add mul div sub lt to_unsigned
  flat_0 e a = rw (flat_encoded (per_pixel (λ i. f0)) o (record { 0 = f0; 1 = f0 }) zeros a refl (rw e refl), e)

  pub flat_1 : o.snorm ≡ false → searches o ≡ false → compressed (per_pixel (λ i. f1)) o ≡ 255
  unfolding closest of_bytes level_value filled_to of_bits of_int add mul div sub lt to_unsigned
  flat_1 e a = rw (flat_encoded (per_pixel (λ i. f1)) o (record { 0 = f1; 1 = f1 }) ones a refl (rw e refl), e)

  pub flat_signed_0 : o.snorm ≡ true → compressed (per_pixel (λ i. f0)) o ≡ 0x8181
  unfolding closest of_bytes level_value filled_to of_bits of_int add mul div sub lt to_unsigned
  flat_signed_0 e = rw (flat_encoded (per_pixel (λ i. f0)) o (record { 0 = f0; 1 = f0 }) zeros (rw e (unsearched (o.brute_force && not o.dither))) refl (rw e refl), e)
