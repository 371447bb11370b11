-- One message: it leaves the sizes as they are, changes no other place, and stands at its own where it changes something. Where it fits, its place answers it.
use mathlib.Core.Path.{◌≡◌, refl, ap, ◌∙◌}
use mathlib.Core.Bool.{Bool, true, false, not, cond}
use mathlib.Core.List.{[], ◌∷◌}
use mathlib.Core.Logic.{dite}
use Prim.Native.Nat.{ℕ, ◌+◌, ◌<◌}
use native.Mathlib.Decide.{dec_lt}
use native.Mathlib.Omega.{arith}
use lib.ListN.{length, set, length-set}
use lib.Seq.{get_or-set_same, get_or-set_other}
use borrow.Author.Tests.{eq-eqb, lt-leb}
use Rattle.place.specs.Place.{along, bc4_size, encoded_length, block_at}
use Rattle.place.proofs.Places.{block_apart}
use Rattle.std.specs.declared.result.Result.TheVariants.{Ok, Err}
use Rattle.refusal.specs.Refusals.{Answer, Checked, first_of, answered, length_check, place_check, size_checks, bytes_checks}
use Rattle.refusal.proofs.Firsts.{both_passed, passed_before, clear_passed}
use Rattle.refusal.proofs.Sizes.{good_passes}
use Rattle.station.specs.declared.Received.{Received}
use Rattle.station.specs.Editions.{Message, Held, entry_size, entry_at, bytes_at, entry_of}
use Rattle.station.specs.Receiving.{fit_checks, held_checks, receive_checks, becomes, receive_answer, changes, bytes_put, tile_after, editions_after}
use Rattle.station.specs.Histories.{received, For, Sized}
use Rattle.station.proofs.Room.{Room, room}
use Rattle.station.proofs.Cases.{at_place}
use Rattle.station.proofs.Standing.{put_length, put_here, put_before, put_after}

-- ---- a message that changes something was not refused, so that its place is there
changed_passed : (c : Checked) (entry edition : ℕ) → changes (answered Err (Ok (becomes entry edition)) c) ≡ true → c ≡ Ok tt
changed_passed (Ok tt) entry edition e = refl
changed_passed (Err q) entry edition e = absurd (let z : ◌≡◌ {A = ℕ} 0 1 = cc in omega arith)

module _ (held : Held) (width height : ℕ) (m : Message) where
  abbrev answer : Answer Received
  answer = receive_answer held width height m

  pub changed_room : changes answer ≡ true → Room (length held.tile) (length held.editions) (length m.block) width height m.column m.row
  changed_room e =
      room _ _ _ _ _ _ _ (both_passed (fit_checks held width height m) (held_checks held width m) (changed_passed (first_of (receive_checks held width height m)) (entry_at held width m.column m.row) m.edition e)).0

  -- ---- it leaves the lengths
  pub tile_length : length (tile_after answer held.tile width m) ≡ length held.tile
  tile_length = go (changes answer) refl
    where
      go : (t : Bool) → changes answer ≡ t → length (cond t (bytes_put held.tile (block_at bc4_size width m.column m.row) m.block) held.tile) ≡ length held.tile
      go true e = let r = changed_room e in put_length held.tile m.block _ r.eight r.bytes
      go false e = refl

  pub editions_length : length (editions_after answer held.editions width m) ≡ length held.editions
  editions_length = go (changes answer)
    where
      go : (t : Bool) → length (cond t (set held.editions (block_at entry_size width m.column m.row) (entry_of m.edition)) held.editions) ≡ length held.editions
      go true = length-set held.editions _ _
      go false = refl

  pub still_sized : Sized width height held → Sized width height (received width height held m)
  still_sized s = record { good = s.good; tile = tile_length ∙ s.tile; entries = editions_length ∙ s.entries }

  -- ---- and all other places
  pub elsewhere : (column row : ℕ) → column < along width → (For column row m → ⊥)
      → (bytes_at (received width height held m) width column row ≡ bytes_at held width column row) × (entry_at (received width height held m) width column row ≡ entry_at held width column row)
  elsewhere column row h other = go (changes answer) refl
    where
      after : Bool → Held
      after t = record {
        tile = cond t (bytes_put held.tile (block_at bc4_size width m.column m.row) m.block) held.tile;
        editions = cond t (set held.editions (block_at entry_size width m.column m.row) (entry_of m.edition)) held.editions;
      }

      overlap : (size at : ℕ) → at ≡ block_at size width m.column m.row → m.column < along width → block_at size width column row < at + size → at < block_at size width column row + size → ⊥
      overlap size at e l p q = other (block_apart size width m.column m.row column row l h (rw e at q) (rw e at p))

      go : (t : Bool) → changes answer ≡ t → (bytes_at (after t) width column row ≡ bytes_at held width column row) × (entry_at (after t) width column row ≡ entry_at held width column row)
      go true e =
          let r = changed_room e in
          let at = block_at bc4_size width m.column m.row in
          let there = block_at bc4_size width column row in (
            dite (dec_lt there (at + bc4_size))
                (λ p. put_before held.tile m.block at r.eight r.bytes there (dite (dec_lt at (there + bc4_size)) (λ q. absurd (overlap bc4_size at refl r.across p q)) (λ q. omega arith)))
                (λ p. put_after held.tile m.block at r.eight r.bytes there (omega arith)),
            get_or-set_other held.editions _ _ _ 0 (λ same. overlap entry_size _ refl r.across (omega arith) (omega arith)),
          )
      go false e = (refl, refl)

  -- ---- at its own place it stands, where it changes something
  pub here : changes answer ≡ true
      → (bytes_at (received width height held m) width m.column m.row ≡ m.block) × (entry_at (received width height held m) width m.column m.row ≡ entry_of m.edition)
  here e =
      let r = changed_room e in
      (rw e (put_here held.tile m.block _ r.eight r.bytes), rw e (get_or-set_same held.editions _ _ 0 r.entry))

  -- where it does not, all is as before
  pub unchanged : changes answer ≡ false → received width height held m ≡ held
  unchanged e = rw e

-- ---- a message that fits a tile and a record of one size is answered by its place
module _ (held : Held) (width height : ℕ) (m : Message) (sized : Sized width height held) (across : m.column < along width) (down : m.row < along height) (eight : length m.block ≡ bc4_size) where
  shape_passed : first_of (fit_checks held width height m) ≡ Ok tt
  shape_passed =
      let bytes = length_check (length held.tile) (encoded_length bc4_size width height) ∷ [] in
      let rest = length_check (length held.editions) (encoded_length entry_size width height) ∷ length_check (length m.block) bc4_size ∷ place_check width height m.column m.row ∷ [] in
      let tiled = passed_before (size_checks width height) bytes (good_passes width height sized.good) ∙ clear_passed bytes (ap not (eq-eqb _ _ sized.tile), tt) in
      passed_before (bytes_checks (length held.tile) width height) rest tiled
      ∙ clear_passed rest (ap not (eq-eqb _ _ sized.entries), (ap not (eq-eqb _ _ eight), (rw (lt-leb (along width) m.column across, lt-leb (along height) m.row down), tt)))

  pub fitting : receive_answer held width height m ≡ at_place (entry_at held width m.column m.row) m.edition (bytes_at held width m.column m.row) m.block
  fitting = rw (passed_before (fit_checks held width height m) (held_checks held width m) shape_passed)
