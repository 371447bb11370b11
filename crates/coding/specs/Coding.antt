-- The bytes of a block once its ends are chosen: endpoints in the mode, and the indexes that dither or the closest values give.
use Rattle.std.specs.Prelude.{List, Bool, cond, Float}
use Rattle.std.specs.Float.Ieee.{lt}
use Rattle.floats.specs.declared.Pair.{Pair}
use Rattle.index_list.specs.Layout.{packed}
use Rattle.end_points.specs.declared.EndPoints.{EndPoints}
use Rattle.end_points.specs.EndPoints.{inter6, inter4}
use Rattle.palette.specs.declared.Kind.{Kind}
use Rattle.palette.specs.declared.Kind.TheVariants.{Six, Four}
use Rattle.palette.specs.declared.Closest.{Closest}
use Rattle.palette.specs.declared.Indexed.{Indexed}
use Rattle.palette.specs.Closest.{closest_of, block_closest}
use Rattle.bcn_util.specs.Dither.{block_dither}
use Rattle.coding.specs.declared.Coded.{Coded}

-- the second if its error is strictly smaller
abbrev pub smaller : Coded → Coded → Coded
smaller best next = cond (lt next.error best.error) next best

-- what the palette of these endpoints answers for a sample
abbrev pub rule_of : Kind → EndPoints → Float → Closest
rule_of kind e = closest_of kind e.c0_f e.c1_f

abbrev pub laid_out : EndPoints → Indexed → Coded
laid_out e x = record { bytes = packed e.c0 e.c1 x.indexes.«data»; error = x.error }

-- with the indexes by its rule, dithered or not
unfoldable pub ended : Kind → List Float → Bool → EndPoints → Coded
ended kind b dither e = laid_out e (cond dither (block_dither (rule_of kind e) b) (block_closest (rule_of kind e) b))

-- ---- from the floats that the endpoints are made of
abbrev pub ends_in : Kind → Bool → Pair → EndPoints
ends_in Six snorm p = inter6 p.0 p.1 snorm
ends_in Four snorm p = inter4 p.0 p.1 snorm

abbrev pub coded : Kind → List Float → Bool → Bool → Pair → Coded
coded kind b snorm dither p = ended kind b dither (ends_in kind snorm p)
