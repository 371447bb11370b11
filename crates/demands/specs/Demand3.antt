-- Demand 3: a repeat is never a worse picture. For every block of samples, both formats and every set of options; where the demand speaks of
-- NaN-free samples the statement is wider.
use Rattle.std.specs.Prelude.{◌≡◌, ◌⊎◌, Bool, true, false, cond, List, [], ◌∷◌, ◌++◌, ℕ, ◌≤◌, Float}
use Rattle.std.specs.Float.Ieee.{lt}
use Rattle.floats.specs.declared.Pair.{Pair}
use Rattle.floats.specs.Bounds.{Within}
use Rattle.index_list.specs.Layout.{bytes_of, from_bytes, AllBytes}
use Rattle.block.specs.Block.{entered, min_max, min_max_with_threshold, bc4_min_value}
use Rattle.palette.specs.declared.Kind.{Kind}
use Rattle.palette.specs.declared.Kind.TheVariants.{Six, Four}
use Rattle.palette.specs.PaletteError.{palette_error}
use Rattle.options.specs.declared.Options.{Options}
use Rattle.options.specs.declared.Quantization.TheVariants.{MediumQuality, HighQuality}
use Rattle.refine.specs.Rounds.{refined}
use Rattle.refine.specs.Refining.{first_step, least_step, quantized_pair, quantizing}
use Rattle.coding.specs.Coding.{smaller, coded}
use Rattle.fit.specs.Fit.{fitted}
use Rattle.compress.specs.Inter6.{nudged_pair, five, compress_inter6}
use Rattle.compress.specs.Inter4.{first_ends, compress_inter4}
use Rattle.encode.specs.Encoder.{searches, compressed}
use Rattle.search.specs.Covered.{Covered, pair_error, OfPair}
use Rattle.decode.specs.BlockError.{block_error}
use Rattle.bc4.specs.declared.Kept.{Kept}
use Rattle.refusal.specs.Refusals.{Answer}
use Rattle.std.specs.declared.result.Result.TheVariants.{Ok, Err}
use Rattle.bc4.specs.Calls.{resend_answer}
use Rattle.demands.specs.Exactly.{Iff}

abbrev pub error_of : Kind → List Float → Pair → Float
error_of kind b p = palette_error kind b p.0 p.1

-- ---- limits. The pair that a refinement from p ends on, before rounding, under a limit
abbrev pub ends_under : ℕ → Kind → List Float → Options → Pair → Pair
ends_under limit kind b o p = refined kind b (least_step o.fast_iter) limit (first_step o.fast_iter p.0 p.1) p.0 p.1

-- where the refinements of an encoding start: the six-value one, the one for five values, the four-value one
abbrev pub six_start : List Float → Pair
six_start b = fitted b (fitted b (nudged_pair b (min_max b)))

abbrev pub five_start : List Float → Pair
five_start b = fitted b (fitted b (five (nudged_pair b (min_max b))))

abbrev pub four_start : List Float → Options → Pair
four_start b o = first_ends b o.iter_initial_inter4 (min_max_with_threshold b bc4_min_value)

-- q is p, or a pair of strictly smaller palette error
abbrev pub SameOrBetter : Kind → List Float → Pair → Pair → Type 0
SameOrBetter kind b p q = (q ≡ p) ⊎ (lt (error_of kind b q) (error_of kind b p) ≡ true)

abbrev pub Limits : Kind → List Float → Options → Pair → Type 0
Limits kind b o start = (m n : ℕ) → m ≤ n → SameOrBetter kind b (ends_under m kind b o start) (ends_under n kind b o start)

-- ---- rounding: q has no larger palette error than p, and both errors are finite, so that no NaN hides in the comparison
pub record NoLarger (kind : Kind) (b : List Float) (p q : Pair) : Type 0 where
  pub plain : Within 256 (error_of kind b p)
  pub picked : Within 256 (error_of kind b q)
  pub no_larger : lt (error_of kind b p) (error_of kind b q) ≡ false

-- ---- resends: the station holds the bytes that the answer hands back, whatever the flag says. A refused resend brings none.
abbrev pub held_after : List ℕ → Answer Kept → List ℕ
held_after held (Ok h) = bytes_of h.block
held_after held (Err q) = held

unfoldable pub series : List Float → List ℕ → List Options → List ℕ
series samples held [] = held
series samples held (o ∷ os) = series samples (held_after held (resend_answer samples held o)) os

abbrev pub AllIn : Bool → List Options → Type 0
AllIn snorm [] = Unit {0}
AllIn snorm (o ∷ os) = (o.snorm ≡ snorm) × AllIn snorm os

-- the bytes n are m, or their block error is strictly below
abbrev pub StaysOrBetter : Bool → List Float → List ℕ → List ℕ → Type 0
StaysOrBetter snorm samples m n = (n ≡ m) ⊎ (lt (block_error samples (from_bytes n) snorm) (block_error samples (from_bytes m) snorm) ≡ true)

-- what is coded: the pair that a refinement under the encoder's own limit ends on, then rounded
abbrev pub rounded_ends : Kind → List Float → Options → Pair → Pair
rounded_ends kind b o start = quantizing o.quantization kind b o.snorm (ends_under o.max_refine_iter kind b o start)

pub record Demand3 : Type 0 where
  -- the encoder's refinements are these three
  pub six_runs : (b : List Float) (o : Options)
      → let best = coded Six b o.snorm o.dither (rounded_ends Six b o (six_start b)) in
      compress_inter6 b (min_max b) o ≡ cond o.size_variations (smaller best (coded Six b o.snorm o.dither (rounded_ends Six b o (five_start b)))) best
  pub four_runs : (b : List Float) (o : Options) → compress_inter4 b o ≡ coded Four b o.snorm o.dither (rounded_ends Four b o (four_start b o))
  -- and each, under a larger limit, ends on the same pair or on a better one
  pub six_limits : (s : List Float) (o : Options) → Limits Six (entered s) o (six_start (entered s))
  pub five_limits : (s : List Float) (o : Options) → Limits Six (entered s) o (five_start (entered s))
  pub four_limits : (s : List Float) (o : Options) → Limits Four (entered s) o (four_start (entered s) o)
  -- of any pair, against plain rounding of it
  pub medium : (kind : Kind) (s : List Float) (snorm : Bool) (p : Pair)
      → NoLarger kind (entered s) (quantized_pair snorm p) (quantizing MediumQuality kind (entered s) snorm p)
  pub high : (kind : Kind) (s : List Float) (snorm : Bool) (p : Pair)
      → NoLarger kind (entered s) (quantized_pair snorm p) (quantizing HighQuality kind (entered s) snorm p)
  -- from any point of a series of resends to any later one, whatever bytes are held first
  pub resends : (s : List Float) (snorm : Bool) (held : List ℕ) → AllBytes held → (os ps : List Options) → AllIn snorm os → AllIn snorm ps
      → StaysOrBetter snorm s (series s held os) (series s held (os ++ ps))
  -- the flag is set exactly when the bytes handed back are not the held ones
  pub flagged : (s : List Float) (held : List ℕ) → AllBytes held → (o : Options) (h : Kept) → resend_answer s held o ≡ Ok h
      → Iff (h.fresh ≡ true) (bytes_of h.block ≡ held → ⊥)
  pub errors_finite : (s : List Float) (snorm : Bool) (n : ℕ) → Within 64 (block_error s n snorm)
  -- where the exhaustive search applies: a covered pair is written, in one of the modes,
  pub search_written : (s : List Float) (o : Options) → searches o ≡ true → OfPair (entered s) (compressed s o)
  -- and no covered pair in either mode has a smaller palette error than the one written; the errors are finite.
  pub search_none_smaller : (s : List Float) (o : Options) → searches o ≡ true → (w : OfPair (entered s) (compressed s o)) (kind : Kind) (min max : ℕ)
      → Covered (entered s) min max → lt (pair_error kind (entered s) min max) (pair_error w.kind (entered s) w.min w.max) ≡ false
  pub search_finite : (s : List Float) (kind : Kind) (min max : ℕ) → Covered (entered s) min max → Within 256 (pair_error kind (entered s) min max)
