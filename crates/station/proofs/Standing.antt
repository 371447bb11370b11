-- What stands where once a block's bytes were put at `at`: they stand there, and other eight bytes stay.
use mathlib.Core.Path.{◌≡◌, sym, ap, ◌∙◌}
use mathlib.Core.List.{List, ◌++◌}
use Prim.Native.Nat.{ℕ, ◌+◌, ◌-◌, ◌≤◌}
use native.Mathlib.Omega.{arith}
use lib.ListN.{length, take, drop, length-append, length-drop, take-append-drop}
use lib.Seq.{length-take-le, take_at, drop_at, drop-append-add, drop-drop}
use Rattle.place.specs.Place.{bc4_size}
use Rattle.place.proofs.Joined.{in_first}
use Rattle.station.specs.Receiving.{bytes_put}

module _ (tile block : List ℕ) (at : ℕ) (eight : length block ≡ bc4_size) (within : at + bc4_size ≤ length tile) where
  abbrev front : List ℕ
  front = take at tile

  abbrev back : List ℕ
  back = drop (at + bc4_size) tile

  front_length : length front ≡ at
  front_length = length-take-le at tile (omega arith)

  pub put_length : length (bytes_put tile at block) ≡ length tile
  put_length = simp (length-append, length-drop) (omega (arith, front_length, eight, within))

  pub put_here : take bc4_size (drop at (bytes_put tile at block)) ≡ block
  put_here = rw (drop_at front (block ++ back) at front_length) (take_at block back bc4_size eight)

  pub put_before : (other : ℕ) → other + bc4_size ≤ at → take bc4_size (drop other (bytes_put tile at block)) ≡ take bc4_size (drop other tile)
  put_before other h =
      let there : other + bc4_size ≤ length front = omega (arith, front_length) in
      in_first front (block ++ back) bc4_size other there
      ∙ sym (in_first front (drop at tile) bc4_size other there)
      ∙ ap (λ (l : List ℕ). take bc4_size (drop other l)) (take-append-drop at tile)

  pub put_after : (other : ℕ) → at + bc4_size ≤ other → take bc4_size (drop other (bytes_put tile at block)) ≡ take bc4_size (drop other tile)
  put_after other h =
      let rest = other - (at + bc4_size) in
      let far : other ≡ length front + (length block + rest) = omega (arith, front_length, eight) in
      let back_there : at + bc4_size + rest ≡ other = omega arith in
      ap (take bc4_size)
      (ap (λ (n : ℕ). drop n (bytes_put tile at block)) far ∙ drop-append-add front (block ++ back) (length block + rest) ∙ drop-append-add block back rest ∙ drop-drop rest (at + bc4_size) tile
      ∙ ap (λ (n : ℕ). drop n tile) back_there)
