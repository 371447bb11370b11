-- Any messages of an orderly list, in any order and any number of times, after a clear: each place holds the newest that arrived.
use mathlib.Core.Path.{refl}
use mathlib.Core.List.{List, [], ◌∷◌}
use mathlib.Core.Logic.{◌⊎◌, inl, inr, ⊎_elim}
use Prim.Native.Nat.{ℕ}
use Rattle.station.specs.Editions.{Message, Held}
use Rattle.station.specs.Histories.{started_anew, arrived, Among, AllAmong, Orderly, Sized}
use Rattle.station.proofs.Clears.{cleared_sized, cleared_entry}
use Rattle.station.proofs.OneMore.{Kept, reworded, one_more}

module _ (width height : ℕ) (base : ℕ → ℕ → ℕ) (step : Message → ℕ) (sent : List Message) (orderly : Orderly width height base step sent) (start : Held) where
  abbrev After : (Message → Type 0) → Held → Type 0
  After = Kept width height base step sent orderly start

  run : (ms : List Message) {Those : Message → Type 0} {held : Held} → After Those held → AllAmong ms sent
      → After (λ n. Those n ⊎ Among n ms) (arrived width height held ms)
  unfolding arrived
  run [] k all = reworded width height base step sent orderly start (λ n t. inl t) (λ n t. ⊎_elim (λ x. x) (λ x. absurd x) t) k
  run (m ∷ ms) k all =
      reworded width height base step sent orderly start (λ n t. ⊎_elim (λ s. ⊎_elim inl (λ e. inr (inl e)) s) (λ l. inr (inr l)) t) (λ n t. ⊎_elim (λ s. inl (inl s)) (λ s. ⊎_elim (λ e. inl (inr e)) inr s) t)
      (run ms (one_more width height base step sent orderly start k m (all m (inl refl))) (λ n l. all n (inr l)))

  module _ (sized : Sized width height start) where
    at_start : After (λ n. ⊥) (started_anew start)
    at_start = record {
      were_sent = λ n t. absurd t;
      sized = cleared_sized width height sized;
      each = λ column row h l. inl (record { none = λ n t p. t; empty = cleared_entry width height sized column row h l; bytes = refl });
    }

    module _ (ms : List Message) (all : AllAmong ms sent) where
      pub kept : After (λ n. Among n ms) (arrived width height (started_anew start) ms)
      kept = reworded width height base step sent orderly start (λ n t. ⊎_elim (λ x. absurd x) (λ x. x) t) (λ n t. inr t) (run ms at_start all)
