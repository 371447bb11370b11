-- Document 02, 5/12: what is promised of a station besides its refusals, which are in `Demand1`. `received` is what the call leaves of one message, `arrived` of
-- messages one after the other, `history` with clears between them; each is over the answer that the contract of `station` cites.
use Rattle.std.specs.declared.result.Result.TheVariants.{Ok, Err}
use Rattle.std.specs.Prelude.{◌≡◌, List, ◌∷◌, ◌++◌, ℕ, ◌+◌, ◌-◌, ◌/◌, ◌%◌, ◌<◌, ◌≤◌, length}
use Rattle.refusal.specs.declared.Refusal.TheVariants.{EditionReused, EditionOpposite}
use Rattle.refusal.specs.Refusals.{Answer, refusal_in}
use Rattle.station.specs.declared.Received.{Received}
use Rattle.station.specs.declared.Received.TheVariants.{Taken, Repeated, Replaced, Old}
use Rattle.station.specs.Editions.{Message, Held, entry_at, bytes_at}
use Rattle.station.specs.Receiving.{receive_answer}
use Rattle.station.specs.Histories.{received, started_anew, arrived, Event, history, arrivals, Among, AllAmong, For, SamePlace, Orderly, Newest, Holds, Sized}
use Rattle.station.specs.Histories.Event.{Clears}

-- ---- one message. It goes with the tile: its place is one of the tile's, and it has eight bytes.
pub record Fitting (width height : ℕ) (held : Held) (m : Message) : Type 0 where
  pub sized : Sized width height held
  pub across : m.column < width / 4
  pub down : m.row < height / 4
  pub eight : length m.block ≡ 8

-- the answer where the message's edition is d steps after the held one
pub record BySteps (answer : Answer Received) (d : ℕ) (bytes block : List ℕ) : Type 0 where
  pub repeated : d ≡ 0 → bytes ≡ block → answer ≡ Ok Repeated
  pub reused : d ≡ 0 → (bytes ≡ block → ⊥) → answer ≡ Err EditionReused
  pub newer : 1 ≤ d → d ≤ 32767 → answer ≡ Ok Replaced
  pub opposite : d ≡ 32768 → answer ≡ Err EditionOpposite
  pub older : 32769 ≤ d → d ≤ 65535 → answer ≡ Ok Old

pub record OneMessage (width height : ℕ) (held : Held) (m : Message) : Type 0 where
  -- An empty place takes it, whatever bytes the tile has there.
  pub empty : Fitting width height held m → entry_at held width m.column m.row ≡ 0 → receive_answer held width height m ≡ Ok Taken
  -- Any other entry n is edition n - 1, and editions wrap at 65,536.
  pub full : Fitting width height held m → (n d : ℕ) → entry_at held width m.column m.row ≡ n → 0 < n → m.edition ≡ (n - 1 + d) % 65536
      → BySteps (receive_answer held width height m) d (bytes_at held width m.column m.row) m.block
  -- What it leaves: bytes and edition together, or nothing changed; and nothing at any other place, also where it does not fit.
  pub taken : receive_answer held width height m ≡ Ok Taken → Holds (received width height held m) width m
  pub replaced : receive_answer held width height m ≡ Ok Replaced → Holds (received width height held m) width m
  pub repeated : receive_answer held width height m ≡ Ok Repeated → received width height held m ≡ held
  pub old : receive_answer held width height m ≡ Ok Old → received width height held m ≡ held
  pub nowhere_else : (column row : ℕ) → column < width / 4 → (For column row m → ⊥)
      → (bytes_at (received width height held m) width column row ≡ bytes_at held width column row)
      × (entry_at (received width height held m) width column row ≡ entry_at held width column row)

-- ---- messages of those that were sent, in any order and each any number of times, after a clear
pub record Converging (width height : ℕ) (step : Message → ℕ) (sent : List Message) (start : Held) : Type 0 where
  -- In mid_flight: each place holds the newest of those that arrived, with its edition; and there is a newest one.
  pub mid_flight : (ms : List Message) → AllAmong ms sent → (m : Message) → Newest (λ n. Among n ms) step m
      → Holds (arrived width height (started_anew start) ms) width m
  pub some_newest : (ms : List Message) → AllAmong ms sent → (m : Message) → Among m ms
      → (n : Message) × SamePlace n m × Newest (λ n. Among n ms) step n
  -- A place that none was for is as it was, and empty.
  pub as_before : (ms : List Message) → AllAmong ms sent → (column row : ℕ) → column < width / 4 → row < height / 4
      → ((m : Message) → Among m ms → For column row m → ⊥)
      → (bytes_at (arrived width height (started_anew start) ms) width column row ≡ bytes_at start width column row)
      × (entry_at (arrived width height (started_anew start) ms) width column row ≡ 0)
  -- None is refused, whatever arrived before it.
  pub never_refused : (ms : List Message) → AllAmong ms sent → (m : Message) → Among m sent
      → refusal_in (receive_answer (arrived width height (started_anew start) ms) width height m) ≡ Ok tt
  -- Once every one that was sent arrived, each place that was sent to holds its newest.
  pub converges : (ms : List Message) → AllAmong ms sent → AllAmong sent ms → (m : Message)
      → Newest (λ n. Among n sent) step m → Holds (arrived width height (started_anew start) ms) width m
  -- Lists of the same messages end in the same tile and the same record.
  pub any_order : (ms ns : List Message) → AllAmong ms sent → AllAmong ms ns → AllAmong ns ms
      → arrived width height (started_anew start) ms ≡ arrived width height (started_anew start) ns

pub record Station : Type 0 where
  pub one_message : (width height : ℕ) (held : Held) (m : Message) → OneMessage width height held m
  pub converging : (width height : ℕ) (base : ℕ → ℕ → ℕ) (step : Message → ℕ) (sent : List Message) (start : Held)
      → Orderly width height base step sent → Sized width height start → Converging width height step sent start
  -- Of a history with clears: what follows the last of them is messages after a clear, and the sizes stay what they are, so that all of the above reads from there.
  pub last_clear : (width height : ℕ) (held : Held) (es : List Event) (ms : List Message)
      → history width height held (es ++ Clears ∷ arrivals ms) ≡ arrived width height (started_anew (history width height held es)) ms
  pub sized_still : (width height : ℕ) (held : Held) (es : List Event) → Sized width height held → Sized width height (history width height held es)
  -- Whatever was before the clear, the same messages, orderly or not, then get the same answers and make the same record, and the same bytes wherever it has an entry.
  pub forgotten : (width height : ℕ) (one other : Held) → Sized width height one → Sized width height other → (ms : List Message)
      → let a = arrived width height (started_anew one) ms in
      let b = arrived width height (started_anew other) ms in
      ((m : Message) → receive_answer a width height m ≡ receive_answer b width height m) × (a.editions ≡ b.editions)
      × ((column row : ℕ) → column < width / 4 → row < height / 4 → (entry_at a width column row ≡ 0 → ⊥) → bytes_at a width column row ≡ bytes_at b width column row)
