-- Demand 2.
use mathlib.Core.Path.{◌≡◌, refl, sym, ap, ◌∙◌, subst}
use mathlib.Core.Bool.{false}
use mathlib.Core.Logic.{inl, inr}
use mathlib.Core.List.{List, ◌++◌}
use Prim.Native.Nat.{ℕ, ◌*◌, ◌<◌, ◌≤◌}
use native.Mathlib.Omega.{arith}
use lib.ListN.{length, take, drop}
use lib.Ieee.{Float, is_nan}
use Rattle.floats.proofs.Tests.{clash}
use Rattle.index_list.specs.Layout.{from_bytes}
use Rattle.block.specs.Samples.{pixel_at}
use Rattle.options.specs.declared.Options.{Options}
use Rattle.encode.specs.Encoder.{compressed}
use Rattle.decode.proofs.Bound.{decoded_close}
use Rattle.place.specs.Place.{bad_size, along, bc4_size, encoded_length, block_at, all_bytes, block_of}
use Rattle.tile.specs.Tile.{block_bytes, tile_bytes}
use Rattle.place.proofs.Places.{rows_length, block_within}
use Rattle.place.proofs.Joined.{in_first, all_length, block_stands}
use Rattle.place.proofs.Samples.{block_of_length, block_of_real}
use Rattle.std.specs.declared.result.Result.TheVariants.{Ok}
use Rattle.refusal.specs.Refusals.{refusal_in, first_of, first_nan, encode_checks, tile_checks}
use Rattle.bc4.specs.Calls.{encode_answer}
use Rattle.refusal.proofs.Firsts.{refusal_of}
use Rattle.refusal.proofs.Tiles.{Samples, tile_passed}
use Rattle.demands.specs.Demand2.{Demand2}
use Rattle.demands.proofs.Conditions.{none_before}
use Rattle.demands.proofs.Demand1.{encode_exactly}

pub block_answer : (s : List Float) (o : Options) → first_of (encode_checks s) ≡ Ok tt → encode_answer s o ≡ Ok (compressed s o)
block_answer s o e = rw e

-- what the block call asks of its samples
pub accepted : (s : List Float) → length s ≡ 16 → ((i : ℕ) → i < 16 → is_nan (pixel_at s i) ≡ false) → first_of (encode_checks s) ≡ Ok tt
accepted s long real =
    (encode_exactly s).passed.1 (λ q x. elim x [
      | inl y ↦ y.1 long
      | inr (inl y) ↦ clash y.2.there (real y.0 (subst (λ (n : ℕ). y.0 < n) long y.2.within))
      | inr (inr y) ↦ y
    ])

-- a block of some samples of a tile without NaN
pub part_accepted : (s : List Float) (width height column row : ℕ) → length s ≡ width * height → length s ≤ first_nan s → column < along width → row < along height
    → first_of (encode_checks (block_of s width column row)) ≡ Ok tt
part_accepted s width height column row count free h k =
    accepted (block_of s width column row) (block_of_length s width column row) (block_of_real s width height column row count h k (λ i l. none_before s i (omega arith)))

-- what stands at a block's place in the output, for any bytes that a block may have
pub block_kept : (block : ℕ → ℕ → List ℕ) (size : ℕ) → ((column row : ℕ) → length (block column row) ≡ size) → (width height : ℕ) → bad_size width height ≡ false → (out : List ℕ)
    → (column row : ℕ) → column < along width → row < along height
    → take size (drop (block_at size width column row) (all_bytes block width height ++ drop (encoded_length size width height) out)) ≡ block column row
block_kept block size each width height good out column row h k =
    let long = all_length block size width each height ∙ rows_length width height good size in
    in_first (all_bytes block width height) (drop (encoded_length size width height) out) size (block_at size width column row) (rw long (block_within width height good size column row h k))
    ∙ block_stands block size width each height column row h k

module _ (s : List Float) (width height : ℕ) (o : Options) (out : List ℕ) (passed : first_of (tile_checks s width height (length out)) ≡ Ok tt) (column row : ℕ) (h : column < along width)
    (k : row < along height) where
  tile : Samples s width height (length out)
  tile = tile_passed s width height (length out) passed

  block_accepted : first_of (encode_checks (block_of s width column row)) ≡ Ok tt
  block_accepted = part_accepted s width height column row tile.count tile.real h k

  block_there : take bc4_size (drop (block_at bc4_size width column row) (tile_bytes s width height o ++ drop (encoded_length bc4_size width height) out)) ≡ block_bytes s width o column row
  block_there = block_kept (block_bytes s width o) bc4_size (λ c r. refl) width height tile.good out column row h k

pub demand_2 : Demand2
demand_2 = record {
  encoded = λ s o long real. block_answer s o (accepted s long real);
  near = λ encoded snorm before i h. decoded_close snorm (from_bytes encoded) i h;
  tiled = λ s width height o out n e column row h k.
      let passed = sym (refusal_of _ _) ∙ ap refusal_in e in
      (block_answer (block_of s width column row) o (block_accepted s width height o out passed column row h k), block_there s width height o out passed column row h k);
}
