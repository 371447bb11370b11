-- Demand 1.
use mathlib.Core.Path.{◌≡◌, refl, sym}
use mathlib.Core.List.{List, [], ◌∷◌, ◌++◌}
use Prim.Native.Nat.{ℕ, ◌*◌}
use lib.Dec.{T}
use lib.ListN.{length}
use lib.Ieee.{Float}
use Rattle.options.specs.declared.Options.{Options}
use Rattle.place.specs.Place.{bc4_size, bc5_size, encoded_length}
use Rattle.place.proofs.Places.{size_good}
use Rattle.refusal.specs.declared.Refusal.TheVariants.{WordMalformed, InChannel}
use Rattle.refusal.specs.declared.Channel.TheVariants.{First, Second}
use Rattle.refusal.specs.declared.Fault.TheVariants.{Nan, TileNan}
use Rattle.std.specs.declared.result.Result.TheVariants.{Ok, Err}
use Rattle.refusal.specs.Refusals.{refusal_in, Check, when, first_of, answered, count_check, room_check, tile_nan_check, size_checks, encode_checks, resend_checks, tile_checks, view_checks}
use Rattle.refusal.proofs.Firsts.{refusal_of, first_clear, both_passed, same_of}
use Rattle.refusal.proofs.Sizes.{size_passed}
use Rattle.bc4.specs.Word.{word_of}
use Rattle.bc5.specs.Checks.{nan_checks, tile_nan_checks, counted, encode_checks as pair_encode_checks, resend_checks as pair_resend_checks, tile_checks as pair_tile_checks}
use Rattle.dds.specs.Checks.{read_checks}
use Rattle.dds.specs.Calls.{read_answer}
use Rattle.demands.specs.Exactly.{Condition, When, Exactly, InNumberOrder}
use Rattle.demands.specs.Conditions.{BadWord}
use Rattle.demands.specs.Channels.{BothCounts, BothReal, PairEncodeRefuses, PairResendRefuses, PairTileRefuses}
use Rattle.demands.specs.Demand1.{Demand1, EncodeRefuses, ResendRefuses, TileRefuses, ViewRefuses}
use Rattle.demands.proofs.Refusing.{Alike, end, then, together, ascends, exactly_then, exactly, in_order}
use Rattle.demands.proofs.Conditions.{when_same, iff_refl, unequal_iff, output_iff, pair_output_iff, place_iff, word_iff, nan_said, nan_same, tile_nan_said, tile_nan_same}
use Rattle.demands.proofs.Sizes.{size_alike, bytes_alike, pair_bytes_alike}
use Rattle.demands.proofs.DdsConditions.{read_alike, write_alike}
use Rattle.demands.proofs.StationConditions.{receive_exactly}

-- ---- each check of a call is its condition
encode_alike : (s : List Float) → Alike (encode_checks s) (EncodeRefuses s)
encode_alike s = then (when_same (unequal_iff _ _)) (then (nan_same s) end)

resend_alike : (s : List Float) (held : List ℕ) (o : Options) → Alike (resend_checks s held o) (ResendRefuses s held o)
resend_alike s held o = then (when_same (unequal_iff _ _)) (then (when_same (unequal_iff _ _)) (then (when_same iff_refl) (then (nan_same s) end)))

view_alike : (tile : List ℕ) (width height column row : ℕ) → Alike (view_checks (length tile) width height column row) (ViewRefuses tile width height column row)
view_alike tile width height column row = together (bytes_alike tile width height) (then (when_same (place_iff width height column row)) end)

-- Of a tile: a NaN has a row and a column once the size and the count are right. More may be looked at after it.
module _ (s : List Float) (width height : ℕ) (out : List ℕ) where
  abbrev counts : List Check
  counts = count_check s (width * height) ∷ room_check (length out) (encoded_length bc4_size width height) ∷ []

  tile_exactly : {more : List Check} {More : List Condition} → Alike more More → Exactly (first_of (tile_checks s width height (length out) ++ more)) (TileRefuses s width height out ++ More)
  unfolding size_checks
  tile_exactly {more} alike =
      exactly_then (tile_nan_check s width ∷ more) (together (size_alike width height) (then (when_same (unequal_iff _ _)) (then (when_same (output_iff _ width height)) end))) (λ passed.
      let both = both_passed (size_checks width height) counts passed in
      let good = size_good width height (size_passed width height both.0) in
      exactly (then (tile_nan_same s width height good.0.some (same_of _ _ (first_clear counts both.1).0)) alike))

  tile_alone : Exactly (first_of (tile_checks s width height (length out))) (TileRefuses s width height out)
  unfolding size_checks
  tile_alone = tile_exactly end

-- ---- the same of two channels
both_counts : (first second : List Float) (n : ℕ) {rest : List Check} {Rest : List Condition} → Alike rest Rest → Alike (counted first second n rest) (BothCounts first second n ++ Rest)
both_counts first second n more = then (when_same (unequal_iff _ _)) (then (when_same (unequal_iff _ _)) more)

both_real : (first second : List Float) → Alike (nan_checks first second) (BothReal first second)
both_real first second = then (nan_said (λ i. InChannel (Nan First i)) first) (then (nan_said (λ i. InChannel (Nan Second i)) second) end)

pair_encode_alike : (first second : List Float) → Alike (pair_encode_checks first second) (PairEncodeRefuses first second)
pair_encode_alike first second = both_counts first second 16 (both_real first second)

pair_resend_alike : (first second : List Float) (held : List ℕ) (o : Options) → Alike (pair_resend_checks first second held o) (PairResendRefuses first second held o)
pair_resend_alike first second held o = both_counts first second 16 (then (when_same (unequal_iff _ _)) (then (when_same iff_refl) (both_real first second)))

module _ (first second : List Float) (width height : ℕ) (out : List ℕ) where
  abbrev pair_counts : List Check
  pair_counts = counted first second (width * height) (room_check (length out) (encoded_length bc5_size width height) ∷ [])

  pair_tile_exactly : {more : List Check} {More : List Condition} → Alike more More
      → Exactly (first_of (pair_tile_checks first second width height (length out) ++ more)) (PairTileRefuses first second width height out ++ More)
  unfolding size_checks
  pair_tile_exactly {more} alike =
      exactly_then (tile_nan_checks first second width ++ more) (together (size_alike width height) (both_counts first second (width * height) (then (when_same (pair_output_iff _ width height)) end))) (λ passed.
      let both = both_passed (size_checks width height) pair_counts passed in
      let some = (size_good width height (size_passed width height both.0)).0.some in
      let clear = first_clear pair_counts both.1 in
      exactly
      (then (tile_nan_said first width height some (same_of _ _ clear.0) (λ spot. InChannel (TileNan First spot)))
      (then (tile_nan_said second width height some (same_of _ _ clear.1.0) (λ spot. InChannel (TileNan Second spot))) alike)))

  pair_tile_alone : Exactly (first_of (pair_tile_checks first second width height (length out))) (PairTileRefuses first second width height out)
  unfolding size_checks
  pair_tile_alone = pair_tile_exactly end

word_alike : (flags limit quality last : ℕ) → Alike (when WordMalformed (word_of flags limit quality last).malformed ∷ []) (When WordMalformed (BadWord quality last) ∷ [])
word_alike flags limit quality last = then (when_same (word_iff flags limit quality last)) end

pub encode_exactly : (s : List Float) → Exactly (first_of (encode_checks s)) (EncodeRefuses s)
encode_exactly s = exactly (encode_alike s)

module _ {A : Type 0} (value : A) where
  answer_in_order : {cs : List Check} {Cs : List Condition} → Alike cs Cs → T (ascends 0 cs) → InNumberOrder (refusal_in (answered Err (Ok value) (first_of cs))) Cs
  answer_in_order {cs} alike a = rw (refusal_of value (first_of cs)) (in_order alike a)

  answer_exactly : (cs : List Check) {Cs : List Condition} → Exactly (first_of cs) Cs → Exactly (refusal_in (answered Err (Ok value) (first_of cs))) Cs
  answer_exactly cs e = rw (refusal_of value (first_of cs)) e

read_refusal_lem : (file : List ℕ) → refusal_in (read_answer file) ≡ first_of (read_checks file)
read_refusal_lem file = refusal_of _ (first_of (read_checks file))

pub demand_1 : Demand1
demand_1 = record {
  encode = λ s o. answer_in_order _ (encode_alike s) tt;
  decode = λ b. in_order (then (when_same (unequal_iff _ _)) end) tt;
  error = λ s b snorm.
      answer_in_order _ (then (when_same (unequal_iff _ _)) (then (when_same (unequal_iff _ _)) (then (nan_same s) end))) tt;
  resend = λ s held o. answer_in_order _ (resend_alike s held o) tt;
  tile = λ s width height out. answer_exactly _ _ (tile_alone s width height out);
  view = λ tile width height column row. exactly (view_alike tile width height column row);
  encode_word = λ s flags limit quality last.
      answer_in_order _ (together (encode_alike s) (word_alike flags limit quality last)) tt;
  resend_word = λ s held flags limit quality last.
      answer_in_order _ (together (resend_alike s held (word_of flags limit quality last).options) (word_alike flags limit quality last)) tt;
  tile_word = λ s width height out flags limit quality last.
      answer_exactly _ _ (tile_exactly s width height out (word_alike flags limit quality last));
  pair_encode = λ first second o. answer_in_order _ (pair_encode_alike first second) tt;
  pair_decode = λ b. in_order (then (when_same (unequal_iff _ _)) end) tt;
  pair_error_lem = λ first second b snorm.
      answer_in_order _ (both_counts first second 16 (then (when_same (unequal_iff _ _)) (both_real first second))) tt;
  pair_resend = λ first second held o. answer_in_order _ (pair_resend_alike first second held o) tt;
  pair_tile = λ first second width height out. answer_exactly _ _ (pair_tile_alone first second width height out);
  pair_view = λ tile width height column row. exactly (together (pair_bytes_alike tile width height) (then (when_same (place_iff width height column row)) end));
  pair_encode_word = λ first second flags limit quality last.
      answer_in_order _ (together (pair_encode_alike first second) (word_alike flags limit quality last)) tt;
  pair_resend_word = λ first second held flags limit quality last.
      answer_in_order _
      (together (pair_resend_alike first second held (word_of flags limit quality last).options) (word_alike flags limit quality last)) tt;
  pair_tile_word = λ first second width height out flags limit quality last.
      answer_exactly _ _ (pair_tile_exactly first second width height out (word_alike flags limit quality last));
  write_dds = λ tile width height out. answer_exactly _ _ (exactly (write_alike tile width height out));
  read_dds = λ file. rw (read_refusal_lem file) (exactly (read_alike file));
  read_dds_refusal = λ file. sym (read_refusal_lem file);
  receive = receive_exactly;
  decode_leaves = λ q encoded snorm before. refl;
  tile_leaves = λ q samples width height o before. refl;
  view_empty = λ q tile width height column row e. rw e;
  pair_tile_leaves = λ q first second width height o before. refl;
  pair_view_empty = λ q tile width height column row e. rw e;
  write_dds_leaves = λ q tile width height snorm before. refl;
  read_dds_empty = λ q file e. rw e;
  receive_leaves = λ q held width m. (refl, refl);
}
