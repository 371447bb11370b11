-- What stands in a file that was written: the header's fields each at its place, and after the header the tile.
use mathlib.Core.Path.{◌≡◌, refl, sym, ap, ◌∙◌}
use mathlib.Core.Bool.{Bool}
use mathlib.Core.List.{List, ◌++◌, append_assoc}
use Prim.Native.Nat.{ℕ, ◌+◌, ◌*◌, ◌-◌, ◌%◌, ◌^◌, ◌<◌}
use native.Mathlib.Omega.{arith}
use lib.ListN.{length, take, drop, get_or, length-append}
use lib.Seq.{take_at, drop_at, drop-drop}
use borrow.Rule.Slice.PartMut.{put_mid}
use Rattle.fields.specs.Fields.{field_at}
use Rattle.fields.proofs.Laws.{field_holds}
use Rattle.place.proofs.Joined.{in_first, joined_length, joined_at}
use Rattle.dds.specs.Layout.{header_length, header_fields, header_field, header_of, file_of}

pub header_length_lem : (width height : ℕ) (snorm : Bool) → length (header_of width height snorm) ≡ header_length
unfolding header_of
header_length_lem width height snorm = joined_length (header_field width height snorm) 4 (λ k. refl) 32

-- the tile put after the header, which stands at the start of `old`
pub tile_put : (header tile old : List ℕ) (n : ℕ) → length header ≡ n → put_mid n (n + length tile - n) (header ++ drop n old) tile ≡ (header ++ tile) ++ drop (n + length tile) old
tile_put header tile old n e =
    let more : n + length tile - n ≡ length tile = omega arith in
    rw (more, take_at header (drop n old) n e, drop_at header (drop n old) n e, drop-drop (length tile) n old) (sym (append_assoc header tile (drop (n + length tile) old)))

module _ (tile : List ℕ) (width height : ℕ) (snorm : Bool) where
  pub file_length : length (file_of tile width height snorm) ≡ header_length + length tile
  file_length = length-append (header_of width height snorm) tile ∙ ap (λ n. n + length tile) (header_length_lem width height snorm)

  pub file_body : drop header_length (file_of tile width height snorm) ≡ tile
  file_body = drop_at (header_of width height snorm) tile header_length (header_length_lem width height snorm)

  -- the bytes of field k, and the number that they hold
  pub field_stands : (k : ℕ) → k < 32 → take 4 (drop (4 * k) (file_of tile width height snorm)) ≡ header_field width height snorm k
  unfolding header_of
  field_stands k h =
      let place : 4 * k ≡ k * 4 + 0 = omega arith in
      let header = header_of width height snorm in
      rw place (in_first header tile 4 (k * 4 + 0) (omega (arith, header_length_lem width height snorm)) ∙ joined_at (header_field width height snorm) 4 (λ k. refl) 32 k 4 0 h (omega arith))

  pub field_reads : (k : ℕ) → k < 32 → field_at 4 (file_of tile width height snorm) (4 * k) ≡ get_or (header_fields width height snorm) k 0 % 2 ^ 32
  field_reads k h = field_holds 4 (get_or (header_fields width height snorm) k 0) (file_of tile width height snorm) (4 * k) (omega arith) (field_stands k h)
