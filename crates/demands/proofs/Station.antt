-- What is promised of a station: each part is a law of `station`.
use mathlib.Core.Path.{◌≡◌, refl, ap, ◌∙◌}
use mathlib.Core.Bool.{Bool, true, false}
use mathlib.Core.List.{List}
use Prim.Native.Nat.{ℕ, ◌+◌, ◌-◌, ◌%◌, ◌<◌}
use native.Mathlib.Omega.{arith}
use lib.ListN.{length, length-take, length-drop}
use Rattle.place.specs.Place.{bc4_size}
use Rattle.place.proofs.Places.{block_within}
use Rattle.station.specs.Editions.{Message, Held, entry_at, bytes_at, edition_in, ahead, alike}
use Rattle.station.specs.Receiving.{receive_answer, changes}
use Rattle.station.proofs.Cases.{at_place, empty_takes, equal_repeats, other_reused, newer_replaces, half_opposite, older_stays, alike_same, alike_equal}
use Rattle.station.proofs.Messages.{elsewhere, here, unchanged, fitting}
use Rattle.station.proofs.Converging.{held_newest, some_newest, as_before, never_refused, any_order}
use Rattle.station.proofs.Clears.{last_clear, history_sized}
use Rattle.station.proofs.Forgotten.{forgotten, same_answer}
use Rattle.demands.specs.Station.{Fitting, BySteps, OneMessage, Station}

module _ (width height : ℕ) (held : Held) (m : Message) where
  abbrev entry : ℕ
  entry = entry_at held width m.column m.row

  abbrev bytes : List ℕ
  bytes = bytes_at held width m.column m.row

  module _ (f : Fitting width height held m) where
    by_place : receive_answer held width height m ≡ at_place entry m.edition bytes m.block
    by_place = fitting held width height m f.sized f.across f.down f.eight

    eight_held : length bytes ≡ bc4_size
    eight_held = simp (length-take, length-drop) (omega (arith, block_within width height f.sized.good bc4_size m.column m.row f.across f.down, f.sized.tile))

    -- bytes that are not the same are not found alike
    unlike : (bytes ≡ m.block → ⊥) → alike bytes m.block bc4_size ≡ false
    unlike other = go (alike bytes m.block bc4_size) (alike_equal bytes m.block eight_held f.eight)
      where
        go : (t : Bool) → (t ≡ true → bytes ≡ m.block) → t ≡ false
        go true same = absurd (other (same refl))
        go false same = refl

    by_steps : (n d : ℕ) → entry ≡ n → 0 < n → m.edition ≡ (n - 1 + d) % 65536 → BySteps (receive_answer held width height m) d bytes m.block
    by_steps n d is some later =
        let full : entry ≡ 0 → ⊥ = λ e. omega arith in
        let steps : d < 65536 → ahead m.edition (edition_in entry) ≡ d = λ l. omega arith in
        record {
          repeated = λ z same. by_place ∙ equal_repeats entry m.edition bytes m.block full (steps (omega arith) ∙ z) (rw same (alike_same m.block bc4_size));
          reused = λ z other. by_place ∙ other_reused entry m.edition bytes m.block full (steps (omega arith) ∙ z) (unlike other);
          newer = λ l g. let s = steps (omega arith) in by_place ∙ newer_replaces entry m.edition bytes m.block full (omega arith) (omega arith);
          opposite = λ z. by_place ∙ half_opposite entry m.edition bytes m.block full (steps (omega arith) ∙ z);
          older = λ l g. let s = steps (omega arith) in by_place ∙ older_stays entry m.edition bytes m.block full (omega arith);
        }

  one_message : OneMessage width height held m
  one_message = record {
    empty = λ f e. by_place f ∙ empty_takes entry m.edition bytes m.block e;
    full = by_steps;
    taken = λ e. let h = here held width height m (ap changes e) in record { bytes = h.0; entry = h.1 };
    replaced = λ e. let h = here held width height m (ap changes e) in record { bytes = h.0; entry = h.1 };
    repeated = λ e. unchanged held width height m (ap changes e);
    old = λ e. unchanged held width height m (ap changes e);
    nowhere_else = elsewhere held width height m;
  }

pub station : Station
station = record {
  one_message = one_message;
  converging = λ width height base step sent start orderly sized. record {
    mid_flight = held_newest width height base step sent orderly start sized;
    some_newest = some_newest width height base step sent orderly start sized;
    as_before = as_before width height base step sent orderly start sized;
    never_refused = never_refused width height base step sent orderly start sized;
    converges = λ ms all every m newest.
        held_newest width height base step sent orderly start sized ms all m (record { one = every m newest.one; none_newer = λ n l. newest.none_newer n (all n l) });
    any_order = any_order width height base step sent orderly start sized;
  };
  last_clear = last_clear;
  sized_still = λ width height held es. history_sized width height es;
  forgotten = λ width height one other s t ms.
      let agree = forgotten width height s t ms in
      (λ m. same_answer width height _ _ agree m, agree.records, agree.bytes);
}
