-- What is written decodes to what was chosen: each way through the encoder.
use mathlib.Core.Path.{◌≡◌, refl, sym, ◌∙◌}
use mathlib.Core.List.{List}
use mathlib.Core.Bool.{Bool, true, false, cond, not, ◌&&◌}
use Prim.Native.Nat.{ℕ}
use lib.Ieee.{Float}
use Rattle.floats.specs.declared.Pair.{Pair}
use Rattle.floats.proofs.Tests.{clash}
use Rattle.index_list.proofs.Laws.{from_bytes_of}
use Rattle.block.specs.Samples.{per_pixel}
use Rattle.block.specs.Block.{entered, min_max, InUnit}
use Rattle.block.proofs.Laws.{entered_unit}
use Rattle.end_points.specs.declared.EndPoints.{EndPoints}
use Rattle.end_points.specs.EndPoints.{closest}
use Rattle.end_points.proofs.Made.{closest_made}
use Rattle.palette.specs.declared.Kind.{Kind}
use Rattle.palette.specs.declared.Kind.TheVariants.{Six, Four}
use Rattle.options.specs.declared.Options.{Options}
use Rattle.coding.specs.declared.Coded.{Coded}
use Rattle.coding.specs.Coding.{smaller, ended, ends_in, coded}
use Rattle.coding.proofs.EitherOne.{smaller_one}
use Rattle.compress.specs.Inter6.{compress_inter6}
use Rattle.compress.specs.Inter4.{compress_inter4}
use Rattle.search.specs.Search.{searched}
use Rattle.search.specs.Covered.{ends_of, OfPair}
use Rattle.search.proofs.Covered.{search_written}
use Rattle.single.specs.Single.{uniform, around as around_in, nearer_palette, single_color}
use Rattle.single.proofs.OneIndex.{around_written}
use Rattle.encode.specs.Encoder.{searches, six_only, compressed_of, encoded, compressed}
use Rattle.encode.proofs.Middle.{block_middle_to_1}
use Rattle.decode.proofs.Laws.{decoded_low}
use Rattle.refusal.specs.Refusals.{first_of}
use Rattle.demands.specs.Demand3.{six_start, five_start, four_start, rounded_ends}
use Rattle.demands.specs.RoundTrip.{twice, flat, flat_value, is_level, Start, six, five, four, found, level, around, refined, RoundTrip}
use Rattle.demands.proofs.Demand3.{demand_3}
use Rattle.demands.proofs.Choices.{ends_ready, pair_ready, Answer, by_palette_lem, by_level_lem}

-- ---- the search is unsigned, and without dither
plain : (p q r : Bool) → ((p && not q) && not r) ≡ true → (q ≡ false) × (r ≡ false)
plain false q r e = clash e refl
plain true true r e = clash e refl
plain true false true e = clash e refl
plain true false false e = (refl, refl)

search_answer : (b : List Float) (o : Options) (n : ℕ) → searches o ≡ true → OfPair b n → Answer b o n
search_answer b o n s w =
    let e = plain o.brute_force o.dither o.snorm s in
    let c = w.covered in
    by_palette_lem b o n w.kind (ends_of w.kind w.min w.max) b (found s w.kind w.min w.max c)
    (rw e.1 (pair_ready w.kind w.min w.max c.apart c.max_to))
    (rw e.0 w.bytes)

-- ---- a flat block
module _ (b : List Float) (o : Options) (s : searches o ≡ false) (f : flat b ≡ true) where
  abbrev v : Float
  v = flat_value b

  abbrev ends : Kind → EndPoints
  ends kind = ends_in kind o.snorm (twice v)

  abbrev dithered : ℕ
  dithered = (coded Six (per_pixel (λ i. v)) o.snorm true (twice v)).bytes

  module _ (l : is_level o.snorm v ≡ false) where
    around_answer : (n : ℕ) (kind : Kind) → (o.dither ≡ true → kind ≡ Six) → n ≡ (ended kind (per_pixel (λ i. v)) o.dither (ends kind)).bytes → Answer b o n
    around_answer n kind d = by_palette_lem b o n kind (ends kind) (per_pixel (λ i. v)) (around s f l kind d) (ends_ready kind o.snorm (twice v))

    palette_answer : (t : Bool) → o.dither ≡ t → Answer b o (cond t dithered (nearer_palette v o.snorm))
    palette_answer true d = around_answer _ Six (λ t. refl) (rw d refl)
    palette_answer false d =
        smaller_one (λ k. Answer b o k.bytes) (around_in Six v o.snorm) (around_in Four v o.snorm)
        (around_answer _ Six (λ t. refl) (rw d (around_written Six v o.snorm))) (around_answer _ Four (λ t. clash t d) (rw d (around_written Four v o.snorm)))

  flat_answer : InUnit b → Answer b o (single_color v o.snorm o.dither)
  unfolding single_color
  flat_answer u = go (is_level o.snorm v) refl
    where
      go : (t : Bool) → is_level o.snorm v ≡ t → Answer b o (cond t (uniform (closest v o.snorm) 0) (cond o.dither dithered (nearer_palette v o.snorm)))
      go true l = by_level_lem b o _ (closest v o.snorm) (level s f l) (closest_made o.snorm v (block_middle_to_1 b u)) refl
      go false l = palette_answer l o.dither refl

-- ---- any other block
module _ (b : List Float) (o : Options) (s : searches o ≡ false) (f : flat b ≡ false) where
  abbrev runs : Kind → Pair → Coded
  runs kind start = coded kind b o.snorm o.dither (rounded_ends kind b o start)

  coded_answer : (kind : Kind) (start : Pair) → Start b o kind start → Answer b o (runs kind start).bytes
  coded_answer kind start h =
      let p = rounded_ends kind b o start in
      by_palette_lem b o _ kind (ends_in kind o.snorm p) b (refined s f kind start h) (ends_ready kind o.snorm p) refl

  six_answer : Answer b o (compress_inter6 b (min_max b) o).bytes
  six_answer = rw (demand_3.six_runs b o) (go o.size_variations refl)
    where
      go : (t : Bool) → o.size_variations ≡ t → Answer b o (cond t (smaller (runs Six (six_start b)) (runs Six (five_start b))) (runs Six (six_start b))).bytes
      go true e = smaller_one (λ k. Answer b o k.bytes) _ _ (coded_answer Six (six_start b) six) (coded_answer Six (five_start b) (five e))
      go false e = coded_answer Six (six_start b) six

  four_answer : six_only o (min_max b) ≡ false → Answer b o (compress_inter4 b o).bytes
  four_answer e = rw (demand_3.four_runs b o) (coded_answer Four (four_start b o) (four e))

  other_answer : Answer b o (compressed_of b o (min_max b))
  unfolding compressed_of
  other_answer = go (six_only o (min_max b)) refl
    where
      go : (t : Bool) → six_only o (min_max b) ≡ t → Answer b o (cond t (compress_inter6 b (min_max b) o).bytes (smaller (compress_inter4 b o) (compress_inter6 b (min_max b) o)).bytes)
      go true e = six_answer
      go false e = smaller_one (λ k. Answer b o k.bytes) (compress_inter4 b o) (compress_inter6 b (min_max b) o) (four_answer e) six_answer

-- ---- the whole encoder
encoded_answer : (b : List Float) (o : Options) → InUnit b → Answer b o (encoded b o (min_max b))
unfolding encoded
encoded_answer b o u = go (searches o) refl (flat b) refl
  where
    go : (t : Bool) → searches o ≡ t → (f : Bool) → flat b ≡ f
        → Answer b o (cond t (searched b (min_max b)) (cond f (single_color (flat_value b) o.snorm o.dither) (compressed_of b o (min_max b))))
    go true s f h = search_answer b o _ s (search_written b u)
    go false s true h = flat_answer b o s h u
    go false s false h = other_answer b o s h

compressed_answer : (s : List Float) (o : Options) → Answer (entered s) o (compressed s o)
unfolding compressed
compressed_answer s o = encoded_answer (entered s) o (entered_unit s)

pub round_trip : RoundTrip
unfolding first_of
round_trip = record {
  chosen = λ s o. (compressed_answer s o).chosen;
  read = λ s o before. rw (from_bytes_of (compressed s o), decoded_low o.snorm (compressed s o));
  never_128 = λ s o e.
      let a = compressed_answer s o in
      (λ h. a.chosen.sound.c0_written e (sym a.first ∙ h), λ h. a.chosen.sound.c1_written e (sym a.second ∙ h));
}
