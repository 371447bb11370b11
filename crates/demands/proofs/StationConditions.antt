-- Each check of a message says what the table's condition says. That bytes are other bytes can be said once both are eight.
use mathlib.Core.Path.{◌≡◌, refl, sym, ap, ◌∙◌}
use mathlib.Core.Bool.{Bool, true, false, not, ◌&&◌}
use mathlib.Core.List.{List}
use Prim.Native.Nat.{ℕ, ◌-◌, ◌*◌, ◌/◌, ◌%◌, ◌<◌}
use native.Mathlib.Omega.{arith}
use lib.Dec.{eqb}
use lib.ListN.{length, length-take, length-drop}
use borrow.Author.Tests.{eq-eqb, eqb-true, ne_eqb, eqb-false, not-true}
use Rattle.place.specs.Place.{bc4_size, encoded_length}
use Rattle.refusal.specs.Refusals.{refusal_in, first_of}
use Rattle.refusal.proofs.Firsts.{refusal_of}
use Rattle.station.specs.Editions.{Message, Held, entry_size, entry_at, bytes_at, is_empty, edition_in, ahead, alike, halfway}
use Rattle.station.specs.Receiving.{held_checks, receive_checks, receive_answer}
use Rattle.station.proofs.Room.{room}
use Rattle.station.proofs.Cases.{alike_same, alike_equal}
use Rattle.demands.specs.Exactly.{Iff, Exactly}
use Rattle.demands.specs.Conditions.{Reused, Opposite}
use Rattle.demands.specs.Demand1.{ReceiveRefuses}
use Rattle.demands.proofs.Refusing.{end, then, together, exactly_then, exactly}
use Rattle.demands.proofs.Conditions.{when_same, unequal_iff, place_iff, and_iff}
use Rattle.demands.proofs.Sizes.{bytes_alike}

-- the entries of a record in the document's words
entries_iff : (entries width height : ℕ) → Iff (not (eqb entries (encoded_length entry_size width height)) ≡ true) (entries ≡ width * height / 16 → ⊥)
entries_iff entries width height =
    let sixteenth : encoded_length entry_size width height ≡ width * height / 16 = omega arith in
    rw sixteenth (unequal_iff entries (width * height / 16))

full_iff : (n : ℕ) → Iff (not (is_empty n) ≡ true) (0 < n)
full_iff n = (λ e. let some = eqb-false n 0 (not-true (eqb n 0) e) in omega arith, λ l. ap not (ne_eqb n 0 (λ z. omega arith)))

same_iff : (n edition : ℕ) → Iff (eqb (ahead edition (edition_in n)) 0 ≡ true) ((n - 1) % 65536 ≡ edition % 65536)
same_iff n edition = (λ e. let z = eqb-true (ahead edition (edition_in n)) 0 e in omega arith, λ e. eq-eqb (ahead edition (edition_in n)) 0 (omega arith))

opposite_iff : (n edition : ℕ) → Iff (not (is_empty n) && eqb (ahead edition (edition_in n)) halfway ≡ true) (Opposite n edition)
opposite_iff n edition =
    and_iff _ _ (full_iff n) (λ e. let z = eqb-true (ahead edition (edition_in n)) halfway e in omega arith, λ e. eq-eqb (ahead edition (edition_in n)) halfway (omega arith))

other_iff : (bytes block : List ℕ) → length bytes ≡ bc4_size → length block ≡ bc4_size → Iff (not (alike bytes block bc4_size) ≡ true) (bytes ≡ block → ⊥)
other_iff bytes block p q = go (alike bytes block bc4_size) refl
  where
    go : (t : Bool) → alike bytes block bc4_size ≡ t → Iff (not t ≡ true) (bytes ≡ block → ⊥)
    go true e = (λ z. absurd (let w : ◌≡◌ {A = ℕ} 0 1 = cc in omega arith), λ other. absurd (other (alike_equal bytes block p q e)))
    go false e = (λ z same. let w : true ≡ false = sym (rw same (alike_same block bc4_size)) ∙ e in absurd (let v : ◌≡◌ {A = ℕ} 0 1 = cc in omega arith), λ other. refl)

reused_iff : (n edition : ℕ) (bytes block : List ℕ) → length bytes ≡ bc4_size → length block ≡ bc4_size
    → Iff (not (is_empty n) && (eqb (ahead edition (edition_in n)) 0 && not (alike bytes block bc4_size)) ≡ true) (Reused n edition bytes block)
reused_iff n edition bytes block p q =
    let both = and_iff _ _ (full_iff n) (and_iff _ _ (same_iff n edition) (other_iff bytes block p q)) in
    (λ e. let x = both.0 e in (x.0, x.1.0, x.1.1), λ x. both.1 (x.0, (x.1, x.2)))

pub receive_exactly : (held : Held) (width height : ℕ) (m : Message) → Exactly (refusal_in (receive_answer held width height m)) (ReceiveRefuses held width height m)
receive_exactly held width height m =
    rw (refusal_of _ (first_of (receive_checks held width height m)))
    (exactly_then (held_checks held width m)
    (together (bytes_alike held.tile width height)
    (then (when_same (entries_iff (length held.editions) width height))
    (then (when_same (unequal_iff (length m.block) 8)) (then (when_same (place_iff width height m.column m.row)) end))))
    (λ passed.
    let r = room _ _ _ _ _ _ _ passed in
    let eight : length (bytes_at held width m.column m.row) ≡ bc4_size = simp (length-take, length-drop) (omega (arith, r.bytes)) in
    exactly
    (then (when_same (reused_iff (entry_at held width m.column m.row) m.edition (bytes_at held width m.column m.row) m.block eight r.eight))
    (then (when_same (opposite_iff (entry_at held width m.column m.row) m.edition)) end))))
