-- A choice of the encoder's, once it is laid out, decodes to the values that it means.
use mathlib.Core.Path.{◌≡◌, refl, sym, ap, ◌∙◌}
use mathlib.Core.List.{List}
use mathlib.Core.Bool.{Bool, true, false}
use Prim.Native.Nat.{ℕ, ◌≤◌, ◌<◌}
use native.Mathlib.Omega.{arith}
use lib.Ieee.{Float}
use borrow.Author.Tests.{lt-ltb}
use Rattle.floats.specs.declared.Pair.{Pair}
use Rattle.values.specs.Values.{byte_below}
use Rattle.values.proofs.SignedBytes.{byte_below_asym}
use Rattle.index_list.specs.Indexes.{filled_to}
use Rattle.index_list.specs.Layout.{byte_at, packed}
use Rattle.index_list.proofs.ReadBack.{packed_ends}
use Rattle.block.specs.Samples.{pixel_at}
use Rattle.end_points.specs.declared.EndPoints.{EndPoints}
use Rattle.end_points.specs.EndPoints.{of_bytes}
use Rattle.end_points.proofs.Modes.{inter6_order, inter4_order}
use Rattle.end_points.proofs.Made.{Made, inter6_made, inter4_made, bytes_made}
use Rattle.palette.specs.declared.Kind.{Kind}
use Rattle.palette.specs.declared.Kind.TheVariants.{Six, Four}
use Rattle.palette.proofs.Rules.{closest_lt}
use Rattle.bcn_util.proofs.DitherLaws.{indexes_filled}
use Rattle.options.specs.declared.Options.{Options}
use Rattle.coding.specs.Coding.{rule_of, ended, ends_in}
use Rattle.search.specs.Covered.{ends_of}
use Rattle.decode.specs.Meaning.{value_at, decoded}
use Rattle.decode.proofs.Chosen.{six_chosen, four_chosen, first_value, packed_decoded}
use Rattle.demands.specs.RoundTrip.{meant, asked, Choice, by_palette, by_level, CanChoose, Chosen}

-- ---- endpoints as a palette wants them: in its mode's order
abbrev pub InMode : Bool → Kind → EndPoints → Type 0
InMode snorm Six e = byte_below e.c1 e.c0 snorm ≡ true
InMode snorm Four e = byte_below e.c0 e.c1 snorm ≡ true

pub record Ready (snorm : Bool) (kind : Kind) (e : EndPoints) : Type 0 where
  pub made : Made snorm e
  pub mode : InMode snorm kind e

pub ends_ready : (kind : Kind) (snorm : Bool) (p : Pair) → Ready snorm kind (ends_in kind snorm p)
ends_ready Six snorm p = record { made = inter6_made snorm p.0 p.1; mode = inter6_order snorm p.0 p.1 }
ends_ready Four snorm p = record { made = inter4_made snorm p.0 p.1; mode = inter4_order snorm p.0 p.1 }

pub pair_ready : (kind : Kind) (min max : ℕ) → min < max → max ≤ 255 → Ready false kind (ends_of kind min max)
unfolding of_bytes
pair_ready Six min max h l = record { made = bytes_made max min (omega arith) (omega arith); mode = lt-ltb min max h }
pair_ready Four min max h l = record { made = bytes_made min max (omega arith) (omega arith); mode = lt-ltb min max h }

-- ---- one answer of a palette
rule_meant : (snorm : Bool) (kind : Kind) (e : EndPoints) → Ready snorm kind e → (x : Float)
    → value_at snorm e.c0 e.c1 (rule_of kind e x).index ≡ meant kind e (rule_of kind e x)
rule_meant snorm Six e r x =
    let m = r.made in
    rw (m.sound.c0_float, m.sound.c1_float) (six_chosen snorm e.c0 e.c1 m.c0_lt m.c1_lt r.mode x)
rule_meant snorm Four e r x =
    let m = r.made in
    rw (m.sound.c0_float, m.sound.c1_float)
    (four_chosen snorm e.c0 e.c1 m.c0_lt m.c1_lt (byte_below_asym snorm e.c0 e.c1 m.c0_lt m.c1_lt r.mode) x)

-- ---- a whole choice
abbrev pub bytes_by : Choice → ℕ
bytes_by c = packed c.ends.c0 c.ends.c1 (filled_to c.index 16)

palette_bytes : (kind : Kind) (e : EndPoints) (b : List Float) (dither : Bool) → (ended kind b dither e).bytes ≡ bytes_by (by_palette kind e b dither)
unfolding by_palette ended
palette_bytes kind e b true = ap (packed e.c0 e.c1) (indexes_filled (rule_of kind e) b 16)
palette_bytes kind e b false = refl

-- the decoded pixels are the values meant
abbrev Reads : Bool → Choice → Type 0
Reads snorm c = (i : ℕ) → i < 16 → pixel_at (decoded (bytes_by c) snorm) i ≡ c.value i

palette_reads : (snorm : Bool) (kind : Kind) (e : EndPoints) (b : List Float) (dither : Bool) → Ready snorm kind e → Reads snorm (by_palette kind e b dither)
unfolding by_palette
palette_reads snorm kind e b dither r i h =
    let at : ℕ → Float = asked (rule_of kind e) b dither in
    packed_decoded snorm e.c0 e.c1 r.made.c0_lt r.made.c1_lt (λ k. (rule_of kind e (at k)).index) (λ k l. closest_lt kind _ _ (at k)) i h
    ∙ rule_meant snorm kind e r (at i)

level_reads : (snorm : Bool) (e : EndPoints) → Made snorm e → Reads snorm (by_level e)
unfolding by_level
level_reads snorm e m i h =
    packed_decoded snorm e.c0 e.c1 m.c0_lt m.c1_lt (λ k. 0) (λ k l. omega arith) i h
    ∙ first_value snorm e.c0 e.c1 m.c0_lt m.c1_lt
    ∙ sym m.sound.c0_float

-- ---- what was written for a choice
pub record Answer (b : List Float) (o : Options) (n : ℕ) : Type 0 where
  pub chosen : Chosen b o n
  pub first : byte_at n 0 ≡ chosen.choice.ends.c0
  pub second : byte_at n 1 ≡ chosen.choice.ends.c1

answer : (b : List Float) (o : Options) (n : ℕ) (c : Choice) → CanChoose b o c → Made o.snorm c.ends → n ≡ bytes_by c → Reads o.snorm c → Answer b o n
answer b o n c can m e reads =
    let ends = packed_ends c.ends.c0 c.ends.c1 (filled_to c.index 16) m.c0_lt m.c1_lt in
    record {
      chosen = record { choice = c; can_choose = can; sound = m.sound; bytes = e; decodes = λ i h. rw e (reads i h) };
      first = rw e ends.0;
      second = rw e ends.1;
    }

module _ (b : List Float) (o : Options) (n : ℕ) where
  pub by_palette_lem : (kind : Kind) (e : EndPoints) (block : List Float) → CanChoose b o (by_palette kind e block o.dither) → Ready o.snorm kind e
      → n ≡ (ended kind block o.dither e).bytes → Answer b o n
  unfolding by_palette
  by_palette_lem kind e block can r h =
      answer b o n (by_palette kind e block o.dither) can r.made (h ∙ palette_bytes kind e block o.dither) (palette_reads o.snorm kind e block o.dither r)

  pub by_level_lem : (e : EndPoints) → CanChoose b o (by_level e) → Made o.snorm e → n ≡ packed e.c0 e.c1 (filled_to (λ i. 0) 16) → Answer b o n
  unfolding by_level
  by_level_lem e can m h = answer b o n (by_level e) can m h (level_reads o.snorm e m)
