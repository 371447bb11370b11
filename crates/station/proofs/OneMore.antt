-- One message more, of an orderly list: if each place holds the newest of those before it, it is not refused, and each holds the newest of those and it.
use Rattle.std.specs.declared.result.Result.TheVariants.{Ok}
use mathlib.Core.Path.{◌≡◌, refl, sym, ap, ◌∙◌}
use mathlib.Core.Bool.{Bool, true, false}
use mathlib.Core.List.{List}
use mathlib.Core.Logic.{◌⊎◌, inl, inr, ⊎_elim, dite}
use Prim.Native.Nat.{ℕ, ◌+◌, ◌-◌, ◌%◌, ◌<◌, ◌≤◌}
use native.Mathlib.Decide.{dec_lt}
use native.Mathlib.Omega.{arith}
use lib.Dec.{eqb}
use borrow.Author.Tests.{eqb-true, eqb-false}
use Rattle.place.specs.Place.{along, bc4_size}
use Rattle.refusal.specs.Refusals.{Answer, refusal_in}
use Rattle.station.specs.declared.Received.{Received}
use Rattle.station.specs.declared.Received.TheVariants.{Taken, Repeated, Replaced, Old}
use Rattle.station.specs.Editions.{Message, Held, entry_at, bytes_at, wrap, edition_in, entry_of, ahead}
use Rattle.station.specs.Receiving.{receive_answer, changes}
use Rattle.station.specs.Histories.{received, Among, For, SamePlace, Orderly, Newest, Holds, Sized}
use Rattle.station.proofs.Steps.{newer, same, older, entry_read}
use Rattle.station.proofs.Cases.{at_place, empty_takes, equal_repeats, newer_replaces, older_stays, alike_same}
use Rattle.station.proofs.Messages.{still_sized, elsewhere, here, unchanged, fitting}

-- is a message for a place, or not?
pub for_place : (m : Message) (column row : ℕ) → For column row m ⊎ (For column row m → ⊥)
for_place m column row = go (eqb m.column column) (eqb m.row row) refl refl
  where
    go : (t u : Bool) → eqb m.column column ≡ t → eqb m.row row ≡ u → For column row m ⊎ (For column row m → ⊥)
    go true true p q = inl (eqb-true _ _ p, eqb-true _ _ q)
    go true false p q = inr (λ both. eqb-false _ _ q both.1)
    go false u p q = inr (λ both. eqb-false _ _ p both.0)

module _ (width height : ℕ) (base : ℕ → ℕ → ℕ) (step : Message → ℕ) (sent : List Message) (orderly : Orderly width height base step sent) (start : Held) where
  -- ---- what a place holds after those: nothing came for it, and it is as at the start, or the newest of them
  pub record Untouched (Those : Message → Type 0) (held : Held) (column row : ℕ) : Type 0 where
    pub none : (m : Message) → Those m → For column row m → ⊥
    pub empty : entry_at held width column row ≡ 0
    pub bytes : bytes_at held width column row ≡ bytes_at start width column row

  pub record Filled (Those : Message → Type 0) (held : Held) (column row : ℕ) : Type 0 where
    pub m : Message
    pub there : For column row m
    pub newest : Newest Those step m
    pub holds : Holds held width m

  pub record Kept (Those : Message → Type 0) (held : Held) : Type 0 where
    pub were_sent : (m : Message) → Those m → Among m sent
    pub sized : Sized width height held
    pub each : (column row : ℕ) → column < along width → row < along height → Untouched Those held column row ⊎ Filled Those held column row

  -- the same of other words for the same messages
  pub reworded : {These Those : Message → Type 0} {held : Held} → ((m : Message) → These m → Those m) → ((m : Message) → Those m → These m) → Kept These held → Kept Those held
  reworded to from k = record {
    were_sent = λ m t. k.were_sent m (from m t);
    sized = k.sized;
    each = λ column row h l. ⊎_elim
        (λ (u : Untouched _ _ column row). inl (record { none = λ m t. u.none m (from m t); empty = u.empty; bytes = u.bytes }))
        (λ (f : Filled _ _ column row). inr (record { m = f.m; there = f.there; newest = record { one = to f.m f.newest.one; none_newer = λ n t. f.newest.none_newer n (from n t) }; holds = f.holds }))
        (k.each column row h l);
  }

  -- two for one place, of one step, are one edition, with one content
  pub one_step : (m n : Message) → Among m sent → Among n sent → SamePlace m n → step m ≡ step n → (m.edition ≡ n.edition) × (m.block ≡ n.block)
  one_step m n p q place level =
      let one_base : base m.column m.row ≡ base n.column n.row = rw (place.0, place.1) in
      let edition : m.edition ≡ n.edition = orderly.numbered m p ∙ ap (λ (x : ℕ). (x + step m) % wrap) one_base ∙ ap (λ (x : ℕ). (base n.column n.row + x) % wrap) level ∙ sym (orderly.numbered n q) in
      (edition, orderly.one_content m n p q place edition)

  -- ---- one message more
  module _ {Those : Message → Type 0} {held : Held} (k : Kept Those held) (m : Message) (was_sent : Among m sent) where
    abbrev AndOne : Message → Type 0
    AndOne n = Those n ⊎ (n ≡ m)

    abbrev answer : Answer Received
    answer = receive_answer held width height m

    abbrev next : Held
    next = received width height held m

    abbrev entry : ℕ
    entry = entry_at held width m.column m.row

    abbrev bytes : List ℕ
    bytes = bytes_at held width m.column m.row

    by_place : answer ≡ at_place entry m.edition bytes m.block
    by_place = fitting held width height m k.sized (orderly.across m was_sent) (orderly.down m was_sent) (orderly.eight m was_sent)

    -- it stands there now, where none was newer
    now_there : changes answer ≡ true → ((n : Message) → Those n → SamePlace n m → step n ≤ step m) → Filled AndOne next m.column m.row
    now_there e newest =
        let stands = here held width height m e in
        record {
          m = m;
          there = (refl, refl);
          newest = record { one = inr refl; none_newer = λ n t p. ⊎_elim (λ old. newest n old p) (λ (same : n ≡ m). omega (arith, ap step same)) t };
          holds = record { bytes = stands.0; entry = stands.1 };
        }

    -- what stood there stays, where it is not older
    still_there : (f : Filled Those held m.column m.row) → changes answer ≡ false → step m ≤ step f.m → Filled AndOne next m.column m.row
    still_there f e newer =
        rw (unchanged held width height m e) (record {
          m = f.m;
          there = f.there;
          newest = record { one = inl f.newest.one; none_newer = λ n t p. ⊎_elim (λ old. f.newest.none_newer n old p) (λ (same : n ≡ m). omega (arith, ap step same)) t };
          holds = f.holds;
        })

    abbrev Own : Type 0
    Own = (refusal_in answer ≡ Ok tt) × Filled AndOne next m.column m.row

    empty_place : Untouched Those held m.column m.row → Own
    empty_place u =
        let taken : answer ≡ Ok Taken = by_place ∙ empty_takes entry m.edition bytes m.block u.empty in
        (ap refusal_in taken, now_there (ap changes taken) (λ n t p. absurd (u.none n t p)))

    full_place : Filled Those held m.column m.row → Own
    full_place f =
        let b = base m.column m.row in
        let held_sent = k.were_sent f.m f.newest.one in
        let new : m.edition ≡ (b + step m) % wrap = orderly.numbered m was_sent in
        let one_base : base f.m.column f.m.row ≡ b = rw (f.there.0, f.there.1) in
        let old : f.m.edition ≡ (b + step f.m) % wrap = orderly.numbered f.m held_sent ∙ ap (λ (x : ℕ). (x + step f.m) % wrap) one_base in
        let entry_is : entry ≡ entry_of f.m.edition = rw (f.there.0, f.there.1) at f.holds.entry in
        let bytes_are : bytes ≡ f.m.block = rw (f.there.0, f.there.1) at f.holds.bytes in
        let full : entry ≡ 0 → ⊥ = λ e. omega arith in
        let steps : ahead m.edition (edition_in entry) ≡ ahead ((b + step m) % wrap) ((b + step f.m) % wrap) =
        ap (λ (e : ℕ). ahead e (edition_in entry)) new ∙ ap (λ (e : ℕ). ahead ((b + step m) % wrap) (edition_in e)) (entry_is ∙ ap entry_of old) ∙ ap (ahead ((b + step m) % wrap)) (entry_read b (step f.m)) in
        let short = orderly.span m was_sent in
        let held_short = orderly.span f.m held_sent in
        dite (dec_lt (step f.m) (step m))
        (λ l.
        let apart = newer b (step f.m) (step m) l short in
        let replaced : answer ≡ Ok Replaced = by_place ∙ newer_replaces entry m.edition bytes m.block full (omega arith) (omega arith) in
        (ap refusal_in replaced, now_there (ap changes replaced) (λ n t p. let before = f.newest.none_newer n t (p.0 ∙ sym f.there.0, p.1 ∙ sym f.there.1) in omega arith)))
        (λ l. dite (dec_lt (step m) (step f.m))
        (λ g.
        let behind = older b (step f.m) (step m) g held_short in
        let stays : answer ≡ Ok Old = by_place ∙ older_stays entry m.edition bytes m.block full (omega arith) in
        (ap refusal_in stays, still_there f (ap changes stays) (omega arith)))
        (λ g.
        let level : step f.m ≡ step m = omega arith in
        let none : ahead m.edition (edition_in entry) ≡ 0 = steps ∙ ap (λ (h : ℕ). ahead ((b + step m) % wrap) ((b + h) % wrap)) level ∙ same b (step m) in
        let content : bytes ≡ m.block = bytes_are ∙ (one_step f.m m held_sent was_sent f.there level).1 in
        let repeated : answer ≡ Ok Repeated = by_place ∙ equal_repeats entry m.edition bytes m.block full none (rw content (alike_same m.block bc4_size)) in
        (ap refusal_in repeated, still_there f (ap changes repeated) (omega arith))))

    pub own : Own
    own = ⊎_elim empty_place full_place (k.each m.column m.row (orderly.across m was_sent) (orderly.down m was_sent))

    -- at any place
    place_after : (column row : ℕ) → column < along width → row < along height → Untouched AndOne next column row ⊎ Filled AndOne next column row
    place_after column row h l = ⊎_elim at_it beside_it (for_place m column row)
      where
        at_it : For column row m → Untouched AndOne next column row ⊎ Filled AndOne next column row
        at_it p = let f = own.1 in inr (record { m = f.m; there = (f.there.0 ∙ p.0, f.there.1 ∙ p.1); newest = f.newest; holds = f.holds })

        beside_it : (For column row m → ⊥) → Untouched AndOne next column row ⊎ Filled AndOne next column row
        beside_it other = ⊎_elim
            (λ (u : Untouched Those held column row).
            let stays = elsewhere held width height m column row h other in
            inl (record {
              none = λ n t p. ⊎_elim (λ old. u.none n old p) (λ (one : n ≡ m). other (sym (ap (λ (x : Message). x.column) one) ∙ p.0, sym (ap (λ (x : Message). x.row) one) ∙ p.1)) t;
              empty = stays.1 ∙ u.empty;
              bytes = stays.0 ∙ u.bytes;
            }))
            (λ (f : Filled Those held column row).
            let stays = elsewhere held width height m f.m.column f.m.row (orderly.across f.m (k.were_sent f.m f.newest.one)) (λ p. other (p.0 ∙ f.there.0, p.1 ∙ f.there.1)) in
            inr (record {
              m = f.m;
              there = f.there;
              newest = record {
                one = inl f.newest.one;
                none_newer = λ n t p. ⊎_elim
                    (λ old. f.newest.none_newer n old p)
                    (λ (one : n ≡ m). absurd (other (sym (ap (λ (x : Message). x.column) one) ∙ p.0 ∙ f.there.0, sym (ap (λ (x : Message). x.row) one) ∙ p.1 ∙ f.there.1)))
                    t;
              };
              holds = record { bytes = stays.0 ∙ f.holds.bytes; entry = stays.1 ∙ f.holds.entry };
            }))
            (k.each column row h l)

    pub one_more : Kept AndOne next
    one_more = record {
      were_sent = λ n t. ⊎_elim (k.were_sent n) (λ (one : n ≡ m). rw one was_sent) t;
      sized = still_sized held width height m k.sized;
      each = place_after;
    }
