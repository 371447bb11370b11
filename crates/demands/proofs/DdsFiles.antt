-- What is promised of DDS files.
use mathlib.Core.Path.{◌≡◌, refl, sym, ap, ◌∙◌}
use mathlib.Core.Bool.{Bool, true, false, cond, ◌||◌}
use mathlib.Core.Logic.{◌⊎◌, inl, inr}
use mathlib.Core.List.{List, [], ◌∷◌, ◌++◌}
use Prim.Native.Nat.{ℕ, ◌+◌, ◌*◌, ◌/◌, ◌%◌, ◌<◌}
use native.Mathlib.Nat.{mod-eq_of_lt}
use native.Mathlib.Omega.{arith}
use lib.Dec.{T, eqb, eqb→eq, lit<}
use lib.ListN.{length, take, drop, get_or, length-drop, get_or-replicate}
use lib.Seq.{take_at, drop_at, get_or-take, get_or-drop}
use borrow.Author.Tests.{eqb-true, eq-eqb, ne_eqb}
use Rattle.floats.proofs.Tests.{clash}
use Rattle.floats.proofs.Table.{all, at}
use Rattle.place.specs.Place.{bad_size, bc4_size, encoded_length}
use Rattle.place.proofs.Places.{size_small}
use Rattle.std.specs.declared.result.Result.TheVariants.{Ok, Err}
use Rattle.refusal.specs.Refusals.{Checked, first_of, answered}
use Rattle.refusal.proofs.Firsts.{first_clear, both_passed, same_of}
use Rattle.dds.specs.declared.Picture.{Picture}
use Rattle.dds.specs.Layout.{header_length, bc4s, dx10, unsigned_format, signed_format, header_fields, header_field, file_of, width_in, height_in, extended, format_in, array_size_in, body_at}
use Rattle.dds.specs.Checks.{write_checks, cut_checks, mark_checks, format_checks, picture_checks, side_checks, body_checks, read_checks}
use Rattle.dds.specs.Calls.{write_answer, picture_in, read_answer}
use Rattle.dds.proofs.Files.{file_length, file_body, field_stands, field_reads}
use Rattle.dds.proofs.Room.{room}
use Rattle.dds.proofs.ReadBack.{width_back, height_back, read_back}
use Rattle.demands.specs.Exactly.{Iff}
use Rattle.demands.specs.Conditions.{field, four}
use Rattle.demands.specs.DdsFiles.{set_fields, Elsewhere, Header, Agree, Says, DdsFiles}
use Rattle.demands.proofs.Conditions.{half}

-- ---- a tile that is accepted
record Accepted (tile : List ℕ) (width height n : ℕ) : Type 0 where
  good : bad_size width height ≡ false
  long : length tile ≡ encoded_length bc4_size width height
  count : n ≡ 128 + length tile

accepted : (tile : List ℕ) (width height most n : ℕ) → write_answer (length tile) width height most ≡ Ok n → Accepted tile width height n
accepted tile width height most n e = go (first_of (write_checks (length tile) width height most)) refl e
  where
    go : (c : Checked) → first_of (write_checks (length tile) width height most) ≡ c → answered Err (Ok (header_length + encoded_length bc4_size width height)) c ≡ Ok n
        → Accepted tile width height n
    go (Ok tt) p e =
        let r = room (length tile) width height most p in
        let count : header_length + encoded_length bc4_size width height ≡ n = cc in
        let long = r.tile in
        record { good = r.good; long = long; count = omega arith }
    go (Err q) p e = absurd (let z : ◌≡◌ {A = ℕ} 0 1 = cc in omega arith)

-- ---- zero elsewhere
abbrev listed : ℕ → List ℕ → Bool
listed n [] = false
listed n (at ∷ ats) = eqb n at || listed n ats

-- a byte of a field that is listed is not elsewhere
not_elsewhere : (i : ℕ) (ats : List ℕ) → listed (4 * (i / 4)) ats ≡ true → Elsewhere i ats → ⊥
not_elsewhere i [] l e = clash l refl
not_elsewhere i (at ∷ ats) l e = go (eqb (4 * (i / 4)) at) refl l (not_elsewhere i ats)
  where
    go : (t : Bool) → eqb (4 * (i / 4)) at ≡ t → t || listed (4 * (i / 4)) ats ≡ true → (listed (4 * (i / 4)) ats ≡ true → Elsewhere i ats → ⊥) → ⊥
    go true same l rest = let here = eqb-true (4 * (i / 4)) at same in elim e.0 [ inl p ↦ omega arith | inr q ↦ omega arith ]
    go false same l rest = rest l e.1

module _ (tile : List ℕ) (width height : ℕ) (snorm : Bool) where
  -- every field is listed or 0
  abbrev set_or_zero : ℕ → Bool
  set_or_zero k = listed (4 * k) set_fields || eqb (get_or (header_fields width height snorm) k 0) 0

  every : T (all set_or_zero 32)
  every = tt

  byte_stands : (i : ℕ) → i < 128 → get_or (file_of tile width height snorm) i 0 ≡ get_or (header_field width height snorm (i / 4)) (i % 4) 0
  byte_stands i h =
      let file = file_of tile width height snorm in
      let place : 4 * (i / 4) + i % 4 ≡ i = omega arith in
      let there : get_or (take 4 (drop (4 * (i / 4)) file)) (i % 4) 0 ≡ get_or file (4 * (i / 4) + i % 4) 0 = get_or-take 4 (drop (4 * (i / 4)) file) (i % 4) 0 (omega arith) ∙ get_or-drop (4 * (i / 4)) file (i % 4) 0 in
      sym (ap (λ k. get_or file k 0) place) ∙ sym there ∙ ap (λ l. get_or l (i % 4) 0) (field_stands tile width height snorm (i / 4) (omega arith))

  zero_elsewhere : (i : ℕ) → i < 128 → Elsewhere i set_fields → get_or (file_of tile width height snorm) i 0 ≡ 0
  zero_elsewhere i h e = byte_stands i h ∙ go (listed (4 * (i / 4)) set_fields) refl (at set_or_zero 32 every (i / 4) (omega arith))
    where
      go : (t : Bool) → listed (4 * (i / 4)) set_fields ≡ t → T (t || eqb (get_or (header_fields width height snorm) (i / 4) 0) 0) → get_or (header_field width height snorm (i / 4)) (i % 4) 0 ≡ 0
      go true l z = absurd (not_elsewhere i set_fields l e)
      go false l z = rw (eqb→eq (get_or (header_fields width height snorm) (i / 4) 0) 0 z) (get_or-replicate 4 (i % 4) 0 0 (omega arith))

-- ---- the header
characters : (snorm : Bool) → take 4 (header_field 0 0 snorm 21) ≡ cond snorm (0x42 ∷ 0x43 ∷ 0x34 ∷ 0x53 ∷ []) (0x42 ∷ 0x43 ∷ 0x34 ∷ 0x55 ∷ [])
characters true = refl
characters false = refl

header : (tile : List ℕ) (width height : ℕ) (snorm : Bool) → bad_size width height ≡ false → length tile ≡ encoded_length bc4_size width height
    → Header (file_of tile width height snorm) tile width height snorm
header tile width height snorm good long =
    let reads = field_reads tile width height snorm in
    let small = size_small width height good in
    record {
      long = file_length tile width height snorm;
      magic = field_stands tile width height snorm 0 (lit< tt);
      header_size_lem = reads 1 (lit< tt);
      flags = reads 2 (lit< tt);
      height_field = height_back tile width height snorm good long;
      width_field = width_back tile width height snorm good long;
      linear_size = reads 5 (lit< tt) ∙ mod-eq_of_lt (omega arith) ∙ half width height;
      mip_count = reads 7 (lit< tt);
      pixel_size = reads 19 (lit< tt);
      pixel_flags = reads 20 (lit< tt);
      characters = field_stands tile width height snorm 21 (lit< tt) ∙ characters snorm;
      caps = reads 27 (lit< tt);
      zero = zero_elsewhere tile width height snorm;
      body = file_body tile width height snorm;
    }

-- ---- a read looks at named fields and the length alone
module _ (f g : List ℕ) (a : Agree f g) where
  same_extended : extended f ≡ extended g
  same_extended = ap (λ c. eqb c dx10) a.four_characters_lem

  same_format : format_in f ≡ format_in g
  unfolding format_in
  same_format = rw (← same_extended, ← a.four_characters_lem) (go (extended f) refl)
    where
      go : (t : Bool) → extended f ≡ t → cond t (field f 128) (cond (eqb (four f) bc4s) 81 80) ≡ cond t (field g 128) (cond (eqb (four f) bc4s) 81 80)
      go true e = (a.extension (eqb-true (four f) dx10 e)).0
      go false e = refl

  same_array : array_size_in f ≡ array_size_in g
  unfolding array_size_in
  same_array = rw (← same_extended) (go (extended f) refl)
    where
      go : (t : Bool) → extended f ≡ t → cond t (field f 140) 1 ≡ cond t (field g 140) 1
      go true e = (a.extension (eqb-true (four f) dx10 e)).1
      go false e = refl

  same_body : body_at f ≡ body_at g
  unfolding body_at
  same_body = rw same_extended

  same_checks : read_checks f ≡ read_checks g
  same_checks = rw (a.long, a.four_characters_lem, a.magic, a.header_size_lem, same_format, a.mip_count, a.depth, a.caps2, same_array, a.width, a.height, same_body)

  same_picture : picture_in f ≡ picture_in g
  unfolding picture_in
  same_picture = rw (a.width, a.height, same_format, same_body)

  same_answer : read_answer f ≡ read_answer g
  same_answer = rw (same_checks, same_picture)

-- ---- what a file is read as
module _ (file : List ℕ) where
  signed_iff : Iff (eqb (format_in file) signed_format ≡ true) ((four file ≡ bc4s) ⊎ ((four file ≡ dx10) × (field file 128 ≡ 81)))
  unfolding format_in
  signed_iff = go (extended file) refl (eqb (four file) bc4s) refl
    where
      go : (t : Bool) → extended file ≡ t → (s : Bool) → eqb (four file) bc4s ≡ s
          → Iff (eqb (cond t (field file 128) (cond s signed_format unsigned_format)) signed_format ≡ true) ((four file ≡ bc4s) ⊎ ((four file ≡ dx10) × (field file 128 ≡ 81)))
      go true e s f =
          let x : four file ≡ dx10 = eqb-true (four file) dx10 e in
          (λ h. inr (x, eqb-true (field file 128) 81 h), λ h. elim h [ inl y ↦ absurd (omega (arith, x, y)) | inr z ↦ eq-eqb (field file 128) 81 z.1 ])
      go false e true f = (λ h. inl (eqb-true (four file) bc4s f), λ h. refl)
      go false e false f = (λ h. clash h refl, λ h. elim h [ inl y ↦ clash (eq-eqb (four file) bc4s y) f | inr z ↦ clash (eq-eqb (four file) dx10 z.0) e ])

  starts : (four file ≡ dx10 → body_at file ≡ 148) × ((four file ≡ dx10 → ⊥) → body_at file ≡ 128)
  unfolding body_at
  starts = (λ e. rw (eq-eqb (four file) dx10 e), λ n. rw (ne_eqb (four file) dx10 n))

  says : (p : Picture) → read_answer file ≡ Ok p → Says file p
  unfolding picture_in
  says p e = go (first_of (read_checks file)) refl e
    where
      go : (c : Checked) → first_of (read_checks file) ≡ c → answered Err (Ok (picture_in file)) c ≡ Ok p → Says file p
      go (Ok tt) passed e =
          let same : picture_in file ≡ p = cc in
          let before = cut_checks file ++ mark_checks file ++ format_checks file ++ picture_checks file in
          let sides = (both_passed before (side_checks file ++ body_checks file) passed).1 in
          let body = (both_passed (side_checks file) (body_checks file) sides).1 in
          let long : length file ≡ body_at file + encoded_length bc4_size (width_in file) (height_in file) = same_of _ _ (first_clear (body_checks file) body).0 in
          rw (← same)
          (record {
            width = refl;
            height = refl;
            signed = signed_iff;
            start = starts;
            body = rw passed;
            body_length = rw passed (simp length-drop (omega (arith, half (width_in file) (height_in file))));
          })
      go (Err q) passed e = absurd (let z : ◌≡◌ {A = ℕ} 0 1 = cc in omega arith)

-- what was written is the file
module _ (tile : List ℕ) (width height : ℕ) (snorm : Bool) (before : List ℕ) (n : ℕ) (ok : Accepted tile width height n) where
  file_written : take n (file_of tile width height snorm ++ drop n before) ≡ file_of tile width height snorm
  file_written = take_at (file_of tile width height snorm) (drop n before) n (file_length tile width height snorm ∙ sym ok.count)

  rest_stays : drop n (file_of tile width height snorm ++ drop n before) ≡ drop n before
  rest_stays = drop_at (file_of tile width height snorm) (drop n before) n (file_length tile width height snorm ∙ sym ok.count)

pub dds_files : DdsFiles
dds_files = record {
  written = λ tile width height snorm before n e.
      let ok = accepted tile width height (length before) n e in
      (rw (file_written tile width height snorm before n ok) (header tile width height snorm ok.good ok.long), rest_stays tile width height snorm before n ok);
  back = λ tile width height snorm before n e.
      let ok = accepted tile width height (length before) n e in
      rw (file_written tile width height snorm before n ok) (read_back tile width height snorm ok.good ok.long);
  says = says;
  alone = same_answer;
  spelled = (refl, refl, refl, refl);
}
