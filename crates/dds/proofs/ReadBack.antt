-- A file that was written is read back as what it was written from.
use mathlib.Core.Path.{◌≡◌, refl, ap, ◌∙◌}
use mathlib.Core.Bool.{Bool, true, false, not, cond, ◌&&◌}
use mathlib.Core.List.{List, ◌++◌}
use Prim.Native.Nat.{ℕ, ◌+◌, ◌*◌, ◌%◌, ◌^◌, ◌<◌}
use native.Mathlib.Nat.{mod-eq_of_lt}
use native.Mathlib.Omega.{arith}
use lib.Dec.{eqb, lit<}
use lib.ListN.{length, get_or}
use borrow.Author.Tests.{le-ltb, eq-eqb}
use Rattle.fields.specs.Fields.{field_at}
use Rattle.place.specs.Place.{bad_size, bc4_size, encoded_length}
use Rattle.place.proofs.Places.{size_good}
use Rattle.std.specs.declared.result.Result.TheVariants.{Ok}
use Rattle.refusal.specs.Refusals.{first_of}
use Rattle.refusal.proofs.Firsts.{first_clear, clear_passed, passed_before}
use Rattle.refusal.proofs.Sizes.{good_passes}
use Rattle.dds.specs.Layout.{header_length, bc4u, bc4s, dx10, unsigned_format, signed_format, header_fields, file_of, height_in, width_in, four_characters_in, extended, format_in, array_size_in, body_at}
use Rattle.dds.specs.Checks.{is_not, side_checks, body_checks, read_checks}
use Rattle.dds.specs.Calls.{picture_in, read_answer, body_of}
use Rattle.dds.proofs.Files.{file_length, file_body, field_reads}

-- ---- both formats
plain_characters : (snorm : Bool) → eqb (cond snorm bc4s bc4u) dx10 ≡ false
plain_characters true = refl
plain_characters false = refl

known_characters : (snorm : Bool) → let c = cond snorm bc4s bc4u in (is_not c bc4u && is_not c bc4s) && is_not c dx10 ≡ false
known_characters true = refl
known_characters false = refl

format_of : (snorm : Bool) → cond (eqb (cond snorm bc4s bc4u) bc4s) signed_format unsigned_format ≡ cond snorm signed_format unsigned_format
format_of true = refl
format_of false = refl

known_format : (snorm : Bool) → let f = cond snorm signed_format unsigned_format in is_not f unsigned_format && is_not f signed_format ≡ false
known_format true = refl
known_format false = refl

signed_format_lem : (snorm : Bool) → eqb (cond snorm signed_format unsigned_format) signed_format ≡ snorm
signed_format_lem true = refl
signed_format_lem false = refl

module _ (tile : List ℕ) (width height : ℕ) (snorm : Bool) (good : bad_size width height ≡ false) (long : length tile ≡ encoded_length bc4_size width height) where
  abbrev file : List ℕ
  file = file_of tile width height snorm

  reads : (k : ℕ) → k < 32 → field_at 4 file (4 * k) ≡ get_or (header_fields width height snorm) k 0 % 2 ^ 32
  reads = field_reads tile width height snorm

  pub width_back : width_in file ≡ width
  width_back = let side = (size_good width height good).0 in reads 4 (lit< tt) ∙ mod-eq_of_lt (omega arith)

  pub height_back : height_in file ≡ height
  height_back = let side = (size_good width height good).1 in reads 3 (lit< tt) ∙ mod-eq_of_lt (omega arith)

  characters_back : four_characters_in file ≡ cond snorm bc4s bc4u
  characters_back = reads 21 (lit< tt) ∙ go snorm
    where
      go : (t : Bool) → cond t bc4s bc4u % 2 ^ 32 ≡ cond t bc4s bc4u
      go true = refl
      go false = refl

  plain : extended file ≡ false
  plain = ap (λ c. eqb c dx10) characters_back ∙ plain_characters snorm

  format_back : format_in file ≡ cond snorm signed_format unsigned_format
  unfolding format_in
  format_back = rw (plain, characters_back) (format_of snorm)

  one_picture : array_size_in file ≡ 1
  unfolding array_size_in
  one_picture = rw plain

  starts : body_at file ≡ header_length
  unfolding body_at
  starts = rw plain

  size_back : first_of (side_checks file) ≡ Ok tt
  size_back = rw (width_back, height_back) (good_passes width height good)

  body_back : first_of (body_checks file) ≡ Ok tt
  body_back =
      let size = file_length tile width height snorm in
      clear_passed (body_checks file) (rw (starts, width_back, height_back) (ap not (eq-eqb (length file) _ (size ∙ ap (λ n. header_length + n) long))), tt)

  passes : first_of (read_checks file) ≡ Ok tt
  passes =
      let size = file_length tile width height snorm in
      let rest = first_clear (side_checks file ++ body_checks file) (passed_before (side_checks file) (body_checks file) size_back ∙ body_back) in
      clear_passed (read_checks file) (
        le-ltb (length file) header_length (omega arith),
        (
          rw plain,
          (
            rw (reads 0 (lit< tt)),
            (
              rw (reads 1 (lit< tt)),
              (
                rw characters_back (known_characters snorm),
                (
                  rw format_back (known_format snorm),
                  (rw (reads 7 (lit< tt)), (rw (reads 6 (lit< tt)), (rw (reads 28 (lit< tt)), (rw one_picture, rest)))),
                ),
              ),
            ),
          ),
        ),
      )

  pub read_back : (read_answer file ≡ Ok (record { width = width; height = height; snorm = snorm; start = header_length })) × (body_of file ≡ tile)
  unfolding picture_in
  read_back = (rw (passes, width_back, height_back, format_back, starts, signed_format_lem snorm) refl, rw (passes, starts) (file_body tile width height snorm))
