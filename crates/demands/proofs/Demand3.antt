-- Demand 3.
use mathlib.Core.Path.{◌≡◌, refl, sym, subst}
use mathlib.Core.Bool.{Bool, true, false, cond}
use mathlib.Core.List.{List}
use Prim.Native.Nat.{ℕ}
use lib.Ieee.{Float, lt}
use Rattle.floats.specs.declared.Pair.{Pair}
use Rattle.floats.specs.Bounds.{Within}
use Rattle.floats.proofs.Bounds.{unit_within}
use Rattle.block.specs.Block.{entered}
use Rattle.block.proofs.Laws.{entered_unit}
use Rattle.values.proofs.Levels.{level_value_unit}
use Rattle.end_points.specs.Levels.{levels_of}
use Rattle.end_points.specs.EndPoints.{quantized}
use Rattle.end_points.proofs.Ordered.{low_le, levels_distinct}
use Rattle.palette.specs.declared.Kind.{Kind}
use Rattle.palette.specs.PaletteError.{palette_error}
use Rattle.palette.proofs.Finite.{error_within}
use Rattle.options.specs.declared.Options.{Options}
use Rattle.options.specs.declared.Quantization.TheVariants.{MediumQuality, HighQuality}
use Rattle.refine.specs.declared.rounds.Held.{Held}
use Rattle.refine.specs.Rounds.{held, better}
use Rattle.refine.specs.Refining.{quantized_pair, held_pair, better_pair, other_pair, closer_pair, medium, high_to, pair_of, quantizing, refined_ends, least_step, first_step}
use Rattle.refine.proofs.Limits.{refined_limits}
use Rattle.refine.proofs.Rounding.{medium_no_larger, high_no_larger}
use Rattle.compress.specs.Inter6.{compressed_from, compress_inter6}
use Rattle.compress.specs.Inter4.{compress_inter4}
use Rattle.search.specs.Covered.{Covered, pair_error, OfPair}
use Rattle.search.proofs.Covered.{search_written, search_none_smaller, search_finite}
use Rattle.encode.proofs.Searched.{compressed_searched}
use Rattle.decode.proofs.Finite.{block_error_within}
use Rattle.demands.specs.Demand3.{error_of, Limits, Demand3}
use Rattle.demands.proofs.Series.{flag_right, later}

-- ---- limits
limits : (kind : Kind) (b : List Float) (o : Options) (start : Pair) → Limits kind b o start
limits kind b o start m n l = refined_limits kind b (least_step o.fast_iter) m n (first_step o.fast_iter start.0 start.1) start.0 start.1 l

-- ---- rounding: whatever is tried, its ends are levels, and so its error is finite
pub record Levelled (p : Pair) : Type 0 where
  pub first : Within 1 p.0
  pub second : Within 1 p.1

quantized_levelled : (snorm : Bool) (p : Pair) → Levelled (quantized_pair snorm p)
unfolding quantized
quantized_levelled snorm p =
    let d = levels_distinct snorm p.0 p.1 in
    let h = level_value_unit snorm (levels_of p.0 p.1 snorm).high d.top in
    let l = level_value_unit snorm (levels_of p.0 p.1 snorm).low (low_le snorm (levels_of p.0 p.1 snorm) d) in
    record { first = unit_within _ h.0 h.1; second = unit_within _ l.0 l.1 }

module _ (kind : Kind) (b : List Float) where
  better_levelled : (h : Held) (p : Pair) → Levelled (pair_of h) → Levelled p → Levelled (pair_of (better_pair kind b h p))
  unfolding better held
  better_levelled h p x y = go (lt (palette_error kind b p.0 p.1) h.error)
    where
      go : (t : Bool) → Levelled (pair_of (cond t (record { min = p.0; max = p.1; error = palette_error kind b p.0 p.1 }) h))
      go true = y
      go false = x

  plain_levelled : (snorm : Bool) (p : Pair) → Levelled (pair_of (held_pair kind b (quantized_pair snorm p)))
  unfolding held
  plain_levelled snorm p = quantized_levelled snorm p

  medium_levelled : (snorm : Bool) (p : Pair) → Levelled (quantizing MediumQuality kind b snorm p)
  unfolding quantizing medium
  medium_levelled snorm p =
      better_levelled (held_pair kind b (quantized_pair snorm p)) (quantized_pair snorm (other_pair p (quantized_pair snorm p))) (plain_levelled snorm p) (quantized_levelled snorm _)

  high_levelled : (snorm : Bool) (p : Pair) → Levelled (quantizing HighQuality kind b snorm p)
  unfolding quantizing high_to
  high_levelled snorm p =
      let tried : (i : ℕ) → Levelled (quantized_pair snorm (closer_pair p i)) = λ i. quantized_levelled snorm (closer_pair p i) in
      better_levelled (high_to kind b snorm p 2) (quantized_pair snorm (closer_pair p 3))
      (better_levelled (high_to kind b snorm p 1) (quantized_pair snorm (closer_pair p 2)) (better_levelled (high_to kind b snorm p 0) (quantized_pair snorm (closer_pair p 1)) (plain_levelled snorm p) (tried 1)) (tried 2))
      (tried 3)

finite : (kind : Kind) (s : List Float) (p : Pair) → Levelled p → Within 256 (error_of kind (entered s) p)
finite kind s p l = error_within kind (entered s) p.0 p.1 l.first l.second (entered_unit s)

pub demand_3 : Demand3
unfolding compress_inter6 compressed_from compress_inter4 refined_ends
demand_3 = record {
  six_runs = λ b o. refl;
  four_runs = λ b o. refl;
  six_limits = λ s o. limits _ _ o _;
  five_limits = λ s o. limits _ _ o _;
  four_limits = λ s o. limits _ _ o _;
  medium = λ kind s snorm p. record {
    plain = finite kind s _ (quantized_levelled snorm p);
    picked = finite kind s _ (medium_levelled kind (entered s) snorm p);
    no_larger = medium_no_larger kind (entered s) snorm p;
  };
  high = λ kind s snorm p. record {
    plain = finite kind s _ (quantized_levelled snorm p);
    picked = finite kind s _ (high_levelled kind (entered s) snorm p);
    no_larger = high_no_larger kind (entered s) snorm p;
  };
  resends = later;
  flagged = flag_right;
  errors_finite = λ s snorm n. block_error_within snorm s n;
  search_written = λ s o e. subst (OfPair (entered s)) (sym (compressed_searched s o e)) (search_written (entered s) (entered_unit s));
  search_none_smaller = λ s o e.
      subst
      (λ (n : ℕ). (w : OfPair (entered s) n) (kind : Kind) (min max : ℕ) → Covered (entered s) min max → lt (pair_error kind (entered s) min max) (pair_error w.kind (entered s) w.min w.max) ≡ false)
      (sym (compressed_searched s o e)) (search_none_smaller (entered s) (entered_unit s));
  search_finite = λ s kind min max c. search_finite (entered s) (entered_unit s) kind min max c;
}
