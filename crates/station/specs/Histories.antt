-- Document 02, 5/12: what a station holds after messages arrived, one after the other, and after it was cleared in between.
use Rattle.std.specs.Prelude.{◌≡◌, false, ◌⊎◌, List, [], ◌∷◌, ℕ, ◌+◌, ◌%◌, ◌<◌, ◌≤◌, length}
use Rattle.place.specs.Place.{bad_size, along, bc4_size, encoded_length}
use Rattle.station.specs.Editions.{Message, Held, entry_size, entry_at, bytes_at, wrap, entry_of}
use Rattle.station.specs.Receiving.{receive_answer, tile_after, editions_after, cleared}

abbrev pub received : ℕ → ℕ → Held → Message → Held
received width height held m =
    let answer = receive_answer held width height m in
    record { tile = tile_after answer held.tile width m; editions = editions_after answer held.editions width m }

abbrev pub started_anew : Held → Held
started_anew held = record { tile = held.tile; editions = cleared held.editions }

-- in the order in which they arrived
unfoldable pub arrived : ℕ → ℕ → Held → List Message → Held
arrived width height held [] = held
arrived width height held (m ∷ ms) = arrived width height (received width height held m) ms

-- ---- a history: messages, and clears between them
pub data Event : Type 0 where
  Arrives : Message → Event
  Clears : Event

abbrev pub after_event : ℕ → ℕ → Held → Event → Held
after_event width height held (Arrives m) = received width height held m
after_event width height held Clears = started_anew held

unfoldable pub history : ℕ → ℕ → Held → List Event → Held
history width height held [] = held
history width height held (e ∷ es) = history width height (after_event width height held e) es

abbrev pub arrivals : List Message → List Event
arrivals [] = []
arrivals (m ∷ ms) = Arrives m ∷ arrivals ms

-- ---- what is said of a list of messages
abbrev pub Among : Message → List Message → Type 0
Among m [] = ⊥
Among m (n ∷ ns) = (m ≡ n) ⊎ Among m ns

abbrev pub AllAmong : List Message → List Message → Type 0
AllAmong ms ns = (m : Message) → Among m ms → Among m ns

abbrev pub For : ℕ → ℕ → Message → Type 0
For column row m = (m.column ≡ column) × (m.row ≡ row)

abbrev pub SamePlace : Message → Message → Type 0
SamePlace m n = For n.column n.row m

-- What is asked of the messages that are sent for one tile. `base` is an edition for each place, and `step` says how many steps after it a message's edition is:
-- for a place they lie within 32,767 steps, and no edition of a place has two contents. Of two messages for a place the one with the higher step is the newer.
pub record Orderly (width height : ℕ) (base : ℕ → ℕ → ℕ) (step : Message → ℕ) (sent : List Message) : Type 0 where
  pub across : (m : Message) → Among m sent → m.column < along width
  pub down : (m : Message) → Among m sent → m.row < along height
  pub eight : (m : Message) → Among m sent → length m.block ≡ bc4_size
  pub numbered : (m : Message) → Among m sent → m.edition ≡ (base m.column m.row + step m) % wrap
  pub span : (m : Message) → Among m sent → step m ≤ 32767
  pub one_content : (m n : Message) → Among m sent → Among n sent → SamePlace m n → m.edition ≡ n.edition → m.block ≡ n.block

-- one of those, and none of those for its place is newer
pub record Newest (Those : Message → Type 0) (step : Message → ℕ) (m : Message) : Type 0 where
  pub one : Those m
  pub none_newer : (n : Message) → Those n → SamePlace n m → step n ≤ step m

-- a message's bytes and its edition stand at its place
pub record Holds (held : Held) (width : ℕ) (m : Message) : Type 0 where
  pub bytes : bytes_at held width m.column m.row ≡ m.block
  pub entry : entry_at held width m.column m.row ≡ entry_of m.edition

-- a tile and a record of this size
pub record Sized (width height : ℕ) (held : Held) : Type 0 where
  pub good : bad_size width height ≡ false
  pub tile : length held.tile ≡ encoded_length bc4_size width height
  pub entries : length held.editions ≡ encoded_length entry_size width height
