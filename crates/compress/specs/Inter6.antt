-- bc4.rs, `compress_inter6` and `compress_inter6_impl`.
use Rattle.std.specs.Prelude.{List, cond, Float}
use Rattle.std.specs.Float.Ieee.{lt}
use Rattle.floats.specs.Arithmetic.{◌⊕◌, ◌⊖◌, ◌⊗◌, bits, f0, f1}
use Rattle.floats.specs.Helpers.{min_of, max_of}
use Rattle.floats.specs.declared.Pair.{Pair}
use Rattle.block.specs.Block.{mean}
use Rattle.palette.specs.declared.Kind.TheVariants.{Six}
use Rattle.options.specs.declared.Options.{Options}
use Rattle.refine.specs.Refining.{refined_ends}
use Rattle.fit.specs.Fit.{fitted}
use Rattle.coding.specs.declared.Coded.{Coded}
use Rattle.coding.specs.Coding.{smaller, coded}

unfoldable pub compressed_from : List Float → Pair → Options → Coded
compressed_from b p o = coded Six b o.snorm o.dither (refined_ends Six b (fitted b (fitted b p)) o)

-- 0.95 and 0.25
abbrev pub nudge : Float
nudge = bits 0x3f73_3333

abbrev pub quarter : Float
quarter = bits 0x3e80_0000

-- The smallest and largest, 0.95 of the way from the mean, to lessen the weight of outliers.
abbrev pub nudged : Float → Float → Float
nudged mean x = mean ⊕ (x ⊖ mean) ⊗ nudge

unfoldable pub nudged_pair : List Float → Pair → Pair
nudged_pair b p = record { 0 = nudged (mean b) p.0; 1 = nudged (mean b) p.1 }

-- Five values in place of eight: one end a quarter further out, the one that has more room to move.
unfoldable pub five : Pair → Pair
five p =
    let further = (p.1 ⊖ p.0) ⊗ quarter in
    let min5 = p.0 ⊖ further in
    let max5 = p.1 ⊕ further in
    cond (lt (f1 ⊖ max5) min5) (record { 0 = max_of min5 f0; 1 = p.1 }) (record { 0 = p.0; 1 = min_of max5 f1 })

unfoldable pub compress_inter6 : List Float → Pair → Options → Coded
compress_inter6 b p o =
    let near = nudged_pair b p in
    let best = compressed_from b near o in
    cond o.size_variations (smaller best (compressed_from b (five near) o)) best
