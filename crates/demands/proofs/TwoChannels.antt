-- Demands 2 and 3 for each half: what BC4's own call answers for a channel is cited, and nothing of it is proved again.
use mathlib.Core.Path.{◌≡◌, refl, sym, ap, ◌∙◌, subst}
use mathlib.Core.Bool.{Bool, true, false, cond}
use mathlib.Core.List.{List, [], ◌∷◌, ◌++◌}
use Prim.Native.Nat.{ℕ, ◌+◌, ◌*◌, ◌<◌}
use native.Mathlib.Omega.{arith}
use lib.ListN.{length, take, drop, length-take, length-drop}
use lib.Seq.{get_or-take, get_or-drop}
use lib.Ieee.{Float, lt}
use Rattle.floats.specs.Arithmetic.{f1}
use Rattle.index_list.specs.Layout.{bytes_of, from_bytes, AllBytes}
use Rattle.block.specs.Samples.{per_pixel}
use Rattle.options.specs.declared.Options.{Options}
use Rattle.encode.specs.Encoder.{compressed}
use Rattle.decode.specs.BlockError.{block_error}
use Rattle.place.specs.Place.{bc5_size, encoded_length, block_of}
use Rattle.tile.specs.Tile.{pair_bytes}
use Rattle.std.specs.declared.result.Result.TheVariants.{Ok, Err}
use Rattle.refusal.specs.Refusals.{Answer, refusal_in, first_of}
use Rattle.refusal.proofs.Firsts.{refusal_of}
use Rattle.bc4.specs.declared.Kept.{Kept as OneKept}
use Rattle.bc4.specs.Calls.{better_of, resend_answer as one_resend_answer}
use Rattle.bc5.specs.declared.Halves.{Halves}
use Rattle.bc5.specs.declared.Errors.{Errors as BothErrors}
use Rattle.bc5.specs.declared.Kept.{Kept}
use Rattle.bc5.specs.Checks.{encode_checks, error_checks, resend_checks, tile_checks}
use Rattle.bc5.specs.Calls.{first_half, second_half, coded_of, scores_of, kept_of, encode_answer, error_answer, resend_answer, tile_answer}
use Rattle.bc5.proofs.Counts as counts
use Rattle.demands.specs.Exactly.{Iff}
use Rattle.demands.specs.Demand3.{series, AllIn, StaysOrBetter}
use Rattle.demands.specs.TwoChannels.{HalfDemand3, both_held_after, both_series, ByItself, TwoChannels}
use Rattle.demands.proofs.Conditions.{whole}
use Rattle.demands.proofs.Halves.{decode_each, encode_each, encode_both, error_each, resend_each}
use Rattle.demands.proofs.WorkedValues.{worked_values}
use Rattle.demands.proofs.Demand2.{accepted, part_accepted, block_kept, demand_2}
use Rattle.demands.proofs.Series.{flag_right, series_after, later}
use Rattle.demands.proofs.Demand3.{demand_3}

-- ---- encode
encode_passed : (first second : List Float) (o : Options) (b : Halves) → encode_answer first second o ≡ Ok b → first_of (encode_checks first second) ≡ Ok tt
encode_passed first second o b e = sym (refusal_of _ _) ∙ ap refusal_in e

encoded_as : (first second : List Float) (o : Options) (b : Halves) → encode_answer first second o ≡ Ok b → coded_of first second o ≡ b
encoded_as first second o b e = let passed = encode_passed first second o b e in let same : Ok (coded_of first second o) ≡ Ok b = rw passed at e in cc

score_passed : (first second : List Float) (encoded : List ℕ) (snorm : Bool) (e : BothErrors) → error_answer first second encoded snorm ≡ Ok e → first_of (error_checks first second encoded) ≡ Ok tt
score_passed first second encoded snorm e r = sym (refusal_of _ _) ∙ ap refusal_in r

scored_as : (first second : List Float) (encoded : List ℕ) (snorm : Bool) (e : BothErrors) → error_answer first second encoded snorm ≡ Ok e → scores_of first second encoded snorm ≡ e
scored_as first second encoded snorm e r =
    let passed = score_passed first second encoded snorm e r in let same : Ok (scores_of first second encoded snorm) ≡ Ok e = rw passed at r in cc

-- ---- tile
tile_passed : (first second : List Float) (width height room n : ℕ) → tile_answer first second width height room ≡ Ok n → first_of (tile_checks first second width height room) ≡ Ok tt
tile_passed first second width height room n e = sym (refusal_of _ _) ∙ ap refusal_in e

written_as : (first second : List Float) (width height room n : ℕ) → tile_answer first second width height room ≡ Ok n → n ≡ encoded_length bc5_size width height
written_as first second width height room n e =
    let passed = tile_passed first second width height room n e in let same : Ok (encoded_length bc5_size width height) ≡ Ok n = rw passed at e in cc

half_demand : (s : List Float) (o : Options) → HalfDemand3 s o (compressed s o)
half_demand s o = record {
  made = refl;
  six_limits = demand_3.six_limits s o;
  five_limits = demand_3.five_limits s o;
  four_limits = demand_3.four_limits s o;
  medium = λ kind p. demand_3.medium kind s o.snorm p;
  high = λ kind p. demand_3.high kind s o.snorm p;
  search_written = demand_3.search_written s o;
  search_none_smaller = demand_3.search_none_smaller s o;
}

-- ---- resends
module _ (first second : List Float) where
  resend_passed : (held : List ℕ) (o : Options) (h : Kept) → resend_answer first second held o ≡ Ok h → first_of (resend_checks first second held o) ≡ Ok tt
  resend_passed held o h e = sym (refusal_of _ _) ∙ ap refusal_in e

  resent_as : (held : List ℕ) (o : Options) (h : Kept) → resend_answer first second held o ≡ Ok h → kept_of first second held o ≡ h
  resent_as held o h e = let passed = resend_passed held o h e in let same : Ok (kept_of first second held o) ≡ Ok h = rw passed at e in cc

  resent_each : (held : List ℕ) (o : Options) (h : Kept) → resend_answer first second held o ≡ Ok h
      → (one_resend_answer first (first_half held) o ≡ Ok h.first) × (one_resend_answer second (second_half held) o ≡ Ok h.second)
  resent_each held o h e =
      let each = resend_each first second held o (resend_passed held o h e) in
      rw (← resent_as held o h e) (rw each.0, rw each.1)

  -- What a series leaves of each half is what BC4's series leaves of it, over those resends that were not refused.
  pub record Parted (snorm : Bool) (held : List ℕ) (ps : List Options) : Type 0 where
    pub taken : List Options
    pub all_in : AllIn snorm taken
    pub of_first : first_half (both_series first second held ps) ≡ series first (first_half held) taken
    pub of_second : second_half (both_series first second held ps) ≡ series second (second_half held) taken

  parted : (snorm : Bool) (held : List ℕ) (ps : List Options) → AllIn snorm ps → Parted snorm held ps
  unfolding both_series series
  parted snorm held [] a = record { taken = []; all_in = tt; of_first = refl; of_second = refl }
  parted snorm held (o ∷ ps) a = go (resend_answer first second held o) refl (λ next. parted snorm next ps a.1)
    where
      go : (r : Answer Kept) → resend_answer first second held o ≡ r → ((next : List ℕ) → Parted snorm next ps) → Parted snorm held (o ∷ ps)
      go (Err q) e later =
          let rest = later held in
          record { taken = rest.taken; all_in = rest.all_in; of_first = rw e rest.of_first; of_second = rw e rest.of_second }
      go (Ok h) e later =
          let each = resent_each held o h e in
          let rest = later (bytes_of h.first.block ++ bytes_of h.second.block) in
          record {
            taken = o ∷ rest.taken;
            all_in = (a.0, rest.all_in);
            of_first = rw (e, each.0) rest.of_first;
            of_second = rw (e, each.1) rest.of_second;
          }

  series_after_both : (held : List ℕ) (os ps : List Options) → both_series first second held (os ++ ps) ≡ both_series first second (both_series first second held os) ps
  unfolding both_series
  series_after_both held [] ps = refl
  series_after_both held (o ∷ os) ps = series_after_both (both_held_after held (resend_answer first second held o)) os ps

-- some bytes of bytes
part_bytes : (held : List ℕ) → AllBytes held → (at n : ℕ) → AllBytes (take n (drop at held))
part_bytes held all at n i l =
    let within = rw (length-take, length-drop) at l in
    let short : i < n = omega arith in
    let there : at + i < length held = omega arith in
    rw (get_or-take n (drop at held) i 0 short, get_or-drop at held i 0) (all (at + i) there)

halves_bytes_lem : (held : List ℕ) → AllBytes held → AllBytes (first_half held) × AllBytes (second_half held)
halves_bytes_lem held all = (part_bytes held all 0 8, part_bytes held all 8 8)

both_later : (first second : List Float) (snorm : Bool) (held : List ℕ) → AllBytes held → (os ps : List Options) → AllIn snorm os → AllIn snorm ps
    → StaysOrBetter snorm first (first_half (both_series first second held os)) (first_half (both_series first second held (os ++ ps)))
    × StaysOrBetter snorm second (second_half (both_series first second held os)) (second_half (both_series first second held (os ++ ps)))
both_later first second snorm held all os ps a b =
    let bytes = halves_bytes_lem held all in
    let early = parted first second snorm held os a in
    let late = parted first second snorm (both_series first second held os) ps b in
    let x : first_half (both_series first second held (os ++ ps)) ≡ series first (first_half held) (early.taken ++ late.taken) =
    rw (series_after_both first second held os ps, late.of_first, early.of_first, series_after first (first_half held) early.taken late.taken) in
    let y : second_half (both_series first second held (os ++ ps)) ≡ series second (second_half held) (early.taken ++ late.taken) =
    rw (series_after_both first second held os ps, late.of_second, early.of_second, series_after second (second_half held) early.taken late.taken) in (
      rw (x, early.of_first) (later first snorm (first_half held) bytes.0 early.taken late.taken early.all_in late.all_in),
      rw (y, early.of_second) (later second snorm (second_half held) bytes.1 early.taken late.taken early.all_in late.all_in),
    )

-- a half that BC4's rule kept was judged by its own errors
judged : (s : List Float) (half : List ℕ) (o : Options) → ByItself (better_of s (from_bytes half) o) s half o
unfolding better_of
judged s half o = go (lt (block_error s (compressed s o) o.snorm) (block_error s (from_bytes half) o.snorm))
  where
    go : (t : Bool) → Iff ((cond {A = OneKept} t (record { block = compressed s o; fresh = true }) (record { block = from_bytes half; fresh = false })).fresh ≡ true) (t ≡ true)
    go true = (λ e. refl, λ e. refl)
    go false = (λ e. e, λ e. e)

pub two_channels : TwoChannels
two_channels = record {
  layout = λ b. (refl, refl, refl);
  zero_and_one = λ o unsigned plain.
      ap (λ (zeros : List ℕ). zeros ++ bytes_of (compressed (per_pixel (λ i. f1)) o)) (worked_values.value_9 o unsigned plain)
      ∙ ap (λ (ones : List ℕ). (0 ∷ 0 ∷ 0 ∷ 0 ∷ 0 ∷ 0 ∷ 0 ∷ 0 ∷ []) ++ ones) (worked_values.value_10 o unsigned plain);
  encoded = λ first second o m n p q. rw (encode_both first second (accepted first m p) (accepted second n q));
  encoded_each = λ first second o b e.
      let each = encode_each first second (encode_passed first second o b e) in rw (← encoded_as first second o b e) (rw each.0, rw each.1);
  scored_each = λ first second encoded snorm e r.
      let each = error_each first second encoded (score_passed first second encoded snorm e r) in rw (← scored_as first second encoded snorm e r) (rw each.0, rw each.1);
  resent_each = resent_each;
  decoded_each = decode_each;
  near = λ encoded snorm first second i h. (demand_2.near (first_half encoded) snorm first i h, demand_2.near (second_half encoded) snorm second i h);
  tiled = λ first second width height o out n e.
      let tile = counts.tile_passed first second width height (length out) (tile_passed first second width height (length out) n e) in
      let count : n ≡ width * height = written_as first second width height (length out) n e ∙ whole width height in (
        count,
        λ column row h k. (
          coded_of (block_of first width column row) (block_of second width column row) o,
          rw (encode_both _ _ (part_accepted first width height column row tile.first_count tile.first_real h k) (part_accepted second width height column row tile.second_count tile.second_real h k)),
          block_kept (pair_bytes first second width o) bc5_size (λ c r. refl) width height tile.good out column row h k,
        ),
      );
  each_half = λ first second o b e.
      subst (λ (b : Halves). HalfDemand3 first o b.first × HalfDemand3 second o b.second) (encoded_as first second o b e) (half_demand first o, half_demand second o);
  resends = both_later;
  flagged = λ first second held all o h e.
      let bytes = halves_bytes_lem held all in
      let each = resent_each first second held o h e in
      (flag_right first (first_half held) bytes.0 o h.first each.0, flag_right second (second_half held) bytes.1 o h.second each.1);
  by_itself = λ first second held o h e. rw (← resent_as first second held o h e) (judged first (first_half held) o, judged second (second_half held) o);
}
