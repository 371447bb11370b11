-- A clear leaves the sizes and empties every place; and a history with clears is the messages after the last one.
use mathlib.Core.Path.{◌≡◌, refl, ◌∙◌}
use mathlib.Core.List.{List, [], ◌∷◌, ◌++◌}
use Prim.Native.Nat.{ℕ, ◌<◌}
use native.Mathlib.Omega.{arith}
use lib.ListN.{length, get_or-replicate, length-replicate}
use Rattle.place.specs.Place.{along, block_at}
use Rattle.place.proofs.Places.{block_within}
use Rattle.station.specs.Editions.{Message, Held, entry_size, entry_at}
use Rattle.station.specs.Histories.{received, started_anew, arrived, Event, after_event, history, arrivals, Sized}
use Rattle.station.specs.Histories.Event.{Arrives, Clears}
use Rattle.station.proofs.Messages.{still_sized}

module _ (width height : ℕ) where
  pub cleared_sized : {held : Held} → Sized width height held → Sized width height (started_anew held)
  cleared_sized {held} s = record { good = s.good; tile = s.tile; entries = length-replicate (length held.editions) 0 ∙ s.entries }

  pub cleared_entry : {held : Held} → Sized width height held → (column row : ℕ) → column < along width → row < along height → entry_at (started_anew held) width column row ≡ 0
  cleared_entry {held} s column row h l =
      get_or-replicate (length held.editions) (block_at entry_size width column row) 0 0
      (omega (arith, block_within width height s.good entry_size column row h l, s.entries))

  after_sized : {held : Held} (e : Event) → Sized width height held → Sized width height (after_event width height held e)
  after_sized {held} (Arrives m) s = still_sized held width height m s
  after_sized Clears s = cleared_sized s

  pub history_sized : {held : Held} (es : List Event) → Sized width height held → Sized width height (history width height held es)
  unfolding history
  history_sized [] s = s
  history_sized {held = held} (e ∷ es) s = history_sized {held = after_event width height held e} es (after_sized e s)

  only_messages : (held : Held) (ms : List Message) → history width height held (arrivals ms) ≡ arrived width height held ms
  unfolding history arrived
  only_messages held [] = refl
  only_messages held (m ∷ ms) = only_messages (received width height held m) ms

  pub last_clear : (held : Held) (es : List Event) (ms : List Message)
      → history width height held (es ++ Clears ∷ arrivals ms) ≡ arrived width height (started_anew (history width height held es)) ms
  unfolding history
  last_clear held [] ms = only_messages (started_anew held) ms
  last_clear held (e ∷ es) ms = last_clear (after_event width height held e) es ms
