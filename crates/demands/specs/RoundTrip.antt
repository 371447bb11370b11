-- What is written decodes to what was chosen: for every list of samples and every set of options, each pixel of the decoded block is the value that the
-- encoder chose for it. So layout, INDEX_MAP, mode and the bytes' floats are the same on both sides. And no signed answer has an endpoint byte -128.
use Rattle.std.specs.Prelude.{◌≡◌, List, Bool, true, false, cond, ℕ, ◌<◌, eqb, Float}
use Rattle.std.specs.Float.Ieee.{lt}
use Rattle.floats.specs.Arithmetic.{◌⊕◌, ◌⊖◌}
use Rattle.floats.specs.Helpers.{abs_of}
use Rattle.floats.specs.declared.Pair.{Pair}
use Rattle.index_list.specs.Indexes.{filled_to}
use Rattle.index_list.specs.Layout.{byte_at, packed, bytes_of}
use Rattle.block.specs.Samples.{pixel_at, per_pixel}
use Rattle.block.specs.Block.{entered, min_max}
use Rattle.end_points.specs.declared.EndPoints.{EndPoints}
use Rattle.end_points.specs.EndPoints.{closest, Sound}
use Rattle.palette.specs.declared.Kind.{Kind}
use Rattle.palette.specs.declared.Kind.TheVariants.{Six, Four}
use Rattle.palette.specs.declared.Closest.{Closest}
use Rattle.bcn_util.specs.Dither.{dither_to}
use Rattle.options.specs.declared.Options.{Options}
use Rattle.coding.specs.Coding.{rule_of, ends_in}
use Rattle.search.specs.Covered.{Covered, ends_of}
use Rattle.single.specs.Single.{bc4_epsilon}
use Rattle.encode.specs.Encoder.{searches, six_only, middle, compressed}
use Rattle.decode.specs.Meaning.{decoded}
use Rattle.refusal.specs.Refusals.{first_of, decode_checks}
use Rattle.bc4.specs.Calls.{samples_after}
use Rattle.demands.specs.Demand3.{six_start, five_start, four_start, rounded_ends}

-- ---- The value that an answer of a palette means. At index 0 of six values that is c0, where the encoder works with 7·factor2 + c1.
abbrev pub meant : Kind → EndPoints → Closest → Float
meant Six e a = cond (eqb a.index 0) e.c0_f a.value
meant Four e a = a.value

-- the sample that a palette is asked about for pixel i: the block's, with dither the errors of the pixels before added
abbrev pub asked : (Float → Closest) → List Float → Bool → ℕ → Float
asked rule b dither i = cond dither (pixel_at b i ⊕ pixel_at (dither_to rule b i).map i) (pixel_at b i)

-- ---- a choice: the endpoints, and for each pixel an index and the value that is meant by it
pub record Choice : Type 0 where
  pub ends : EndPoints
  pub index : ℕ → ℕ
  pub value : ℕ → Float

-- the closest value for each pixel
unfoldable pub by_palette : Kind → EndPoints → List Float → Bool → Choice
by_palette kind e b dither =
    let answer : ℕ → Closest = λ i. rule_of kind e (asked (rule_of kind e) b dither i) in
    record { ends = e; index = λ i. (answer i).index; value = λ i. meant kind e (answer i) }

-- one level for all
unfoldable pub by_level : EndPoints → Choice
by_level e = record { ends = e; index = λ i. 0; value = λ i. e.c0_f }

-- ---- the choices that the encoder has for a block, as it has entered
abbrev pub twice : Float → Pair
twice v = record { 0 = v; 1 = v }

-- all samples are nearly the same, and the middle of the smallest and the largest stands for each
abbrev pub flat : List Float → Bool
flat b = lt ((min_max b).1 ⊖ (min_max b).0) bc4_epsilon

abbrev pub flat_value : List Float → Float
flat_value b = middle (min_max b)

-- a level is near enough to that
abbrev pub is_level : Bool → Float → Bool
is_level snorm v = lt (abs_of ((closest v snorm).c0_f ⊖ v)) bc4_epsilon

-- where the refinements start: of six values, of five of them, and of four
pub data Start (b : List Float) (o : Options) : Kind → Pair → Type 0 where
  six : Start b o Six (six_start b)
  five : o.size_variations ≡ true → Start b o Six (five_start b)
  four : six_only o (min_max b) ≡ false → Start b o Four (four_start b o)

pub data CanChoose (b : List Float) (o : Options) : Choice → Type 0 where
  -- the search: a covered pair of bytes, in a mode
  found : searches o ≡ true → (kind : Kind) (min max : ℕ) → Covered b min max → CanChoose b o (by_palette kind (ends_of kind min max) b o.dither)
  -- a flat block: a level, or else a palette around its value, which with dither is that of six values
  level : searches o ≡ false → flat b ≡ true → is_level o.snorm (flat_value b) ≡ true → CanChoose b o (by_level (closest (flat_value b) o.snorm))
  around : searches o ≡ false → flat b ≡ true → is_level o.snorm (flat_value b) ≡ false → (kind : Kind) → (o.dither ≡ true → kind ≡ Six)
      → CanChoose b o (by_palette kind (ends_in kind o.snorm (twice (flat_value b))) (per_pixel (λ i. flat_value b)) o.dither)
  -- any other: the palette of the pair that a refinement ends on
  refined : searches o ≡ false → flat b ≡ false → (kind : Kind) (start : Pair) → Start b o kind start
      → CanChoose b o (by_palette kind (ends_in kind o.snorm (rounded_ends kind b o start)) b o.dither)

-- ---- n is what the encoder wrote for a choice of its own, and decodes to it
pub record Chosen (b : List Float) (o : Options) (n : ℕ) : Type 0 where
  pub choice : Choice
  pub can_choose : CanChoose b o choice
  -- no signed byte is -128, and the floats of the palette are those of the bytes
  pub sound : Sound o.snorm choice.ends
  pub bytes : n ≡ packed choice.ends.c0 choice.ends.c1 (filled_to choice.index 16)
  pub decodes : (i : ℕ) → i < 16 → pixel_at (decoded n o.snorm) i ≡ choice.value i

pub record RoundTrip : Type 0 where
  pub chosen : (s : List Float) (o : Options) → Chosen (entered s) o (compressed s o)
  -- decode accepts the eight bytes of an answer, and what it leaves in the lent array is that block
  pub read : (s : List Float) (o : Options) (before : List Float)
      → let encoded = bytes_of (compressed s o) in
      samples_after (first_of (decode_checks encoded)) encoded o.snorm before ≡ decoded (compressed s o) o.snorm
  -- neither endpoint byte of a signed answer is -128
  pub never_128 : (s : List Float) (o : Options) → o.snorm ≡ true → (byte_at (compressed s o) 0 ≡ 128 → ⊥) × (byte_at (compressed s o) 1 ≡ 128 → ⊥)
