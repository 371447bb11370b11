-- What holds after any messages of an orderly list, from a cleared record.
use Rattle.std.specs.declared.result.Result.TheVariants.{Ok}
use mathlib.Core.Path.{◌≡◌, refl, sym, ap, ◌∙◌}
use mathlib.Core.List.{List}
use mathlib.Core.Logic.{◌⊎◌, ⊎_elim}
use Prim.Native.Nat.{ℕ, ◌<◌}
use native.Mathlib.Omega.{arith}
use Rattle.place.specs.Place.{along}
use Rattle.refusal.specs.Refusals.{refusal_in}
use Rattle.station.specs.Editions.{Message, Held, entry_at, bytes_at, entry_of}
use Rattle.station.specs.Receiving.{receive_answer}
use Rattle.station.specs.Histories.{started_anew, arrived, Among, AllAmong, For, SamePlace, Orderly, Newest, Holds, Sized}
use Rattle.station.proofs.OneMore.{Kept, one_step, own}
use Rattle.station.proofs.Arrivals.{kept}
use Rattle.station.proofs.Whole.{same_tile, same_record, same_held}

module _ (width height : ℕ) (base : ℕ → ℕ → ℕ) (step : Message → ℕ) (sent : List Message) (orderly : Orderly width height base step sent) (start : Held) (sized : Sized width height start) where
  abbrev at : List Message → Held
  at ms = arrived width height (started_anew start) ms

  module _ (ms : List Message) (all : AllAmong ms sent) where
    abbrev so_far : Kept width height base step sent orderly start (λ n. Among n ms) (at ms)
    so_far = kept width height base step sent orderly start sized ms all

    pub held_newest : (m : Message) → Newest (λ n. Among n ms) step m → Holds (at ms) width m
    held_newest m newest = ⊎_elim
        (λ u. absurd (u.none m newest.one (refl, refl)))
        (λ f.
        let no_newer = newest.none_newer f.m f.newest.one f.there in
        let no_older = f.newest.none_newer m newest.one (sym f.there.0, sym f.there.1) in
        let one = one_step width height base step sent orderly start f.m m (all f.m f.newest.one) (all m newest.one) f.there (omega arith) in
        record { bytes = (rw (f.there.0, f.there.1) at f.holds.bytes) ∙ one.1; entry = (rw (f.there.0, f.there.1) at f.holds.entry) ∙ ap entry_of one.0 })
        (so_far.each m.column m.row (orderly.across m (all m newest.one)) (orderly.down m (all m newest.one)))

    -- of those for a place one is the newest
    pub some_newest : (m : Message) → Among m ms → (n : Message) × SamePlace n m × Newest (λ n. Among n ms) step n
    some_newest m one = ⊎_elim
        (λ u. absurd (u.none m one (refl, refl)))
        (λ f. (f.m, f.there, f.newest))
        (so_far.each m.column m.row (orderly.across m (all m one)) (orderly.down m (all m one)))

    -- a place that none is for is as it was, and empty
    pub as_before : (column row : ℕ) → column < along width → row < along height → ((m : Message) → Among m ms → For column row m → ⊥)
        → (bytes_at (at ms) width column row ≡ bytes_at start width column row) × (entry_at (at ms) width column row ≡ 0)
    as_before column row h l none = ⊎_elim
        (λ u. (u.bytes, u.empty))
        (λ f. absurd (none f.m f.newest.one f.there))
        (so_far.each column row h l)

    -- the next one is not refused
    pub never_refused : (m : Message) → Among m sent → refusal_in (receive_answer (at ms) width height m) ≡ Ok tt
    never_refused m was_sent = (own width height base step sent orderly start so_far m was_sent).0

  -- Two lists of the same messages, whatever their order and however often each is there, end in the same bytes and the same record.
  pub any_order : (ms ns : List Message) → AllAmong ms sent → AllAmong ms ns → AllAmong ns ms → at ms ≡ at ns
  any_order ms ns all to from =
      let also : AllAmong ns sent = λ m l. all m (from m l) in
      let k = so_far ms all in
      let l = so_far ns also in
      let each : (column row : ℕ) → column < along width → row < along height → (bytes_at (at ms) width column row ≡ bytes_at (at ns) width column row) × (entry_at (at ms) width column row ≡ entry_at (at ns) width column row) =
      λ column row h g. ⊎_elim
      (λ u. let other = as_before ns also column row h g (λ m t p. u.none m (from m t) p) in (u.bytes ∙ sym other.0, u.empty ∙ sym other.1))
      (λ f.
      let other = held_newest ns also f.m (record { one = to f.m f.newest.one; none_newer = λ n t p. f.newest.none_newer n (from n t) p }) in
      (rw (f.there.0, f.there.1) at (f.holds.bytes ∙ sym other.bytes), rw (f.there.0, f.there.1) at (f.holds.entry ∙ sym other.entry)))
      (k.each column row h g) in
      same_held (at ms) (at ns)
      (same_tile width height (at ms) (at ns) k.sized l.sized (λ column row h g. (each column row h g).0))
      (same_record width height (at ms) (at ns) k.sized l.sized (λ column row h g. (each column row h g).1))
