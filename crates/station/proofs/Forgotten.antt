-- What stood in the tile before a clear has no part in what follows: not in the answers, not in the record, and not at a place that a message came to.
use mathlib.Core.Path.{◌≡◌, refl, sym, ap, ◌∙◌}
use mathlib.Core.Bool.{Bool, true, false}
use mathlib.Core.List.{List, [], ◌∷◌}
use mathlib.Core.Logic.{◌⊎◌, ⊎_elim}
use Prim.Native.Nat.{ℕ, ◌<◌}
use lib.Dec.{eqb}
use lib.ListN.{length, replicate}
use borrow.Author.Tests.{eqb-false}
use Rattle.place.specs.Place.{along}
use Rattle.std.specs.declared.result.Result.TheVariants.{Ok, Err}
use Rattle.refusal.specs.Refusals.{Answer, Checked, first_of, answered}
use Rattle.refusal.proofs.Firsts.{first_append}
use Rattle.station.specs.declared.Received.{Received}
use Rattle.station.specs.Editions.{Message, Held, entry_at, bytes_at, is_empty}
use Rattle.station.specs.Receiving.{edition_checks, fit_checks, held_checks, becomes, receive_answer, changes}
use Rattle.station.specs.Histories.{received, started_anew, arrived, For, Sized}
use Rattle.station.proofs.Room.{room}
use Rattle.station.proofs.Messages.{still_sized, elsewhere, here, unchanged}
use Rattle.station.proofs.OneMore.{for_place}
use Rattle.station.proofs.Clears.{cleared_sized, cleared_entry}

-- an empty place looks at no bytes
empty_alike : (entry edition : ℕ) (xs ys block : List ℕ) → eqb entry 0 ≡ true → first_of (edition_checks entry edition xs block) ≡ first_of (edition_checks entry edition ys block)
unfolding first_of
empty_alike entry edition xs ys block e = rw e

module _ (width height : ℕ) where
  -- one record, and the same bytes wherever it has an entry
  pub record Agree (h g : Held) : Type 0 where
    pub first : Sized width height h
    pub second : Sized width height g
    pub records : h.editions ≡ g.editions
    pub bytes : (column row : ℕ) → column < along width → row < along height → (entry_at h width column row ≡ 0 → ⊥) → bytes_at h width column row ≡ bytes_at g width column row

  module _ (h g : Held) (agree : Agree h g) (m : Message) where
    abbrev entry : ℕ
    entry = entry_at h width m.column m.row

    abbrev shape : Checked
    shape = first_of (fit_checks h width height m)

    -- what is answered, by the bytes at the place and by whether message, tile and record go together
    abbrev said : List ℕ → Checked → Answer Received
    said bytes c = answered Err (Ok (becomes entry m.edition)) (answered Err (first_of (edition_checks entry m.edition bytes m.block)) c)

    one_said : (c : Checked) → shape ≡ c → (t : Bool) → is_empty entry ≡ t → said (bytes_at h width m.column m.row) c ≡ said (bytes_at g width m.column m.row) c
    one_said (Err q) p t e = refl
    one_said (Ok tt) p true e =
        ap (answered Err (Ok (becomes entry m.edition))) (empty_alike entry m.edition (bytes_at h width m.column m.row) (bytes_at g width m.column m.row) m.block e)
    one_said (Ok tt) p false e =
        let r = room (length h.tile) (length h.editions) (length m.block) width height m.column m.row p in
        ap (λ (l : List ℕ). said l (Ok tt)) (agree.bytes m.column m.row r.across r.down (eqb-false entry 0 e))

    in_turn : (x : Held) → receive_answer x width height m
        ≡ answered Err (Ok (becomes (entry_at x width m.column m.row) m.edition)) (answered Err (first_of (held_checks x width m)) (first_of (fit_checks x width height m)))
    in_turn x = ap (answered Err (Ok (becomes (entry_at x width m.column m.row) m.edition))) (first_append (fit_checks x width height m) (held_checks x width m))

    pub same_answer : receive_answer h width height m ≡ receive_answer g width height m
    same_answer =
        let long : length g.tile ≡ length h.tile = agree.second.tile ∙ sym agree.first.tile in
        rw (in_turn h, in_turn g, long, ← agree.records) (one_said shape refl (is_empty entry) refl)

    changed : (column row : ℕ) → column < along width → row < along height → (t : Bool) → changes (receive_answer h width height m) ≡ t → For column row m
        → (entry_at (received width height h m) width column row ≡ 0 → ⊥) → bytes_at (received width height h m) width column row ≡ bytes_at (received width height g m) width column row
    changed column row p q true e there full =
        let one = here h width height m e in
        let other = here g width height m (ap changes (sym same_answer) ∙ e) in
        rw (← there.0, ← there.1) (one.0 ∙ sym other.0)
    changed column row p q false e there full =
        let stays = unchanged h width height m e in
        let also = unchanged g width height m (ap changes (sym same_answer) ∙ e) in
        ap (λ (x : Held). bytes_at x width column row) stays
        ∙ agree.bytes column row p q (λ none. full (ap (λ (x : Held). entry_at x width column row) stays ∙ none))
        ∙ sym (ap (λ (x : Held). bytes_at x width column row) also)

    pub still_agree : Agree (received width height h m) (received width height g m)
    still_agree = record {
      first = still_sized h width height m agree.first;
      second = still_sized g width height m agree.second;
      records = rw (same_answer, agree.records);
      bytes = λ column row p q full. ⊎_elim
          (λ there. changed column row p q (changes (receive_answer h width height m)) refl there full)
          (λ other.
          let one = elsewhere h width height m column row p other in
          let two = elsewhere g width height m column row p other in
          one.0 ∙ agree.bytes column row p q (λ e. full (one.1 ∙ e)) ∙ sym two.0)
          (for_place m column row);
    }

  agree_on : (ms : List Message) {h g : Held} → Agree h g → Agree (arrived width height h ms) (arrived width height g ms)
  unfolding arrived
  agree_on [] a = a
  agree_on (m ∷ ms) {h} {g} a = agree_on ms (still_agree h g a m)

  at_clear : {h g : Held} → Sized width height h → Sized width height g → Agree (started_anew h) (started_anew g)
  at_clear {h} {g} s t = record {
    first = cleared_sized width height s;
    second = cleared_sized width height t;
    records = ap (λ (n : ℕ). replicate n 0) (s.entries ∙ sym t.entries);
    bytes = λ column row p q full. absurd (full (cleared_entry width height s column row p q));
  }

  pub forgotten : {h g : Held} → Sized width height h → Sized width height g → (ms : List Message) → Agree (arrived width height (started_anew h) ms) (arrived width height (started_anew g) ms)
  forgotten s t ms = agree_on ms (at_clear s t)
