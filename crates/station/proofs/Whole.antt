-- Two stations that hold the same at every place hold the same.
use mathlib.Core.Path.{◌≡◌, sym, ap, ◌∙◌}
use mathlib.Core.Bool.{false}
use mathlib.Core.List.{List}
use Prim.Native.Nat.{ℕ, ◌+◌, ◌*◌, ◌/◌, ◌%◌, ◌<◌}
use native.Mathlib.Nat.{mul_comm, mul_assoc, mod-lt, div-lt_iff_lt-mul, div-add-mod'}
use native.Mathlib.Omega.{arith}
use lib.Dec.{lit<}
use lib.ListN.{get_or, take, drop}
use lib.Seq.{get_or-take, get_or-drop, ext_get_or}
use Rattle.place.specs.Place.{bad_size, along, bc4_size, encoded_length, block_at}
use Rattle.place.proofs.Places.{size_good, rows_length}
use Rattle.station.specs.Editions.{Held, entry_size, entry_at, bytes_at}
use Rattle.station.specs.Histories.{Sized}

-- element i belongs to a place, whether a place has eight elements or one
record Belongs (size width height i : ℕ) : Type 0 where
  pub column : ℕ
  pub row : ℕ
  pub within : ℕ
  pub across : column < along width
  pub down : row < along height
  pub inside : within < size
  pub is : block_at size width column row + within ≡ i

belongs : (size width height i : ℕ) → 0 < size → bad_size width height ≡ false → i < encoded_length size width height → Belongs size width height i
belongs size width height i some good h =
    let a = along width in
    let n = i / size in
    let sides = size_good width height good in
    let wide : 0 < a = omega (arith, sides.0.some, sides.0.fours) in
    let few : n < along height * a = (div-lt_iff_lt-mul some).1 (rw (mul_assoc (along height) a size, rows_length width height good size) h) in
    record {
      column = n % a;
      row = n / a;
      within = i % size;
      across = mod-lt n wide;
      down = (div-lt_iff_lt-mul wide).1 few;
      inside = mod-lt i some;
      is = rw (div-add-mod' n a, mul_comm size n) (div-add-mod' i size);
    }

module _ (width height : ℕ) (h g : Held) (sized_h : Sized width height h) (sized_g : Sized width height g) where
  pub same_tile : ((column row : ℕ) → column < along width → row < along height → bytes_at h width column row ≡ bytes_at g width column row) → h.tile ≡ g.tile
  same_tile each = ext_get_or 0 h.tile g.tile (sized_h.tile ∙ sym sized_g.tile) (λ i l.
      let b = belongs bc4_size width height i (lit< tt) sized_h.good (omega (arith, sized_h.tile)) in
      let at = block_at bc4_size width b.column b.row in
      let read : (l : List ℕ) → get_or (take bc4_size (drop at l)) b.within 0 ≡ get_or l i 0 =
      λ l. get_or-take bc4_size (drop at l) b.within 0 b.inside ∙ get_or-drop at l b.within 0 ∙ ap (λ (n : ℕ). get_or l n 0) b.is in
      sym (read h.tile) ∙ ap (λ (l : List ℕ). get_or l b.within 0) (each b.column b.row b.across b.down) ∙ read g.tile)

  pub same_record : ((column row : ℕ) → column < along width → row < along height → entry_at h width column row ≡ entry_at g width column row) → h.editions ≡ g.editions
  same_record each = ext_get_or 0 h.editions g.editions (sized_h.entries ∙ sym sized_g.entries) (λ i l.
      let b = belongs entry_size width height i (lit< tt) sized_h.good (omega (arith, sized_h.entries)) in
      let in_place = b.inside in
      let one : block_at entry_size width b.column b.row ≡ i = omega (arith, b.is) in
      rw one at (each b.column b.row b.across b.down))

pub same_held : (h g : Held) → h.tile ≡ g.tile → h.editions ≡ g.editions → h ≡ g
same_held h g p q = ap (λ (t : List ℕ). record { tile = t; editions = h.editions }) p ∙ ap (λ (e : List ℕ). record { tile = g.tile; editions = e }) q
