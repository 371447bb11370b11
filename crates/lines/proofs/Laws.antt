-- Laws of the text that grows in the output.
use mathlib.Core.Path.{◌≡◌, refl, sym, ap, ◌∙◌}
use mathlib.Core.List.{List, [], ◌++◌, append-nil}
use Prim.Native.Nat.{ℕ, zero, suc, ◌+◌, ◌*◌, ◌-◌, ◌≤◌, ◌<◌}
use native.Mathlib.Nat.{min-eq_left, zero-mul, suc-mul}
use native.Mathlib.Omega.{arith}
use lib.ListN.{length, take, drop, get_or, length-append, length-take, length-drop, drop_of_length-le}
use lib.Seq.{length-take-le, take-add, take_all, take_at, drop_at, drop-drop}
use borrow.Rule.Slice.PartMut.{put_mid}
use Rattle.std.specs.Simd.{first_chunks}
use Rattle.refusal.specs.Refusals.{Answer}
use Rattle.std.specs.declared.result.Result.TheVariants.{Ok, Err}
use Rattle.lines.specs.Output.{hex_line, refused_line}
use Rattle.lines.specs.Answers.{answer_of, line_of, record_at, lines_to, AtStart}

-- A text was put into the part of the output behind a text that stood there.
pub put_more : {text new before after part : List ℕ} {at n : ℕ} → AtStart text before after at → AtStart new (take (length after - at) (drop at after)) part n → length part ≡ length after - at
    → let out = put_mid at (length after - at) after part in AtStart (text ++ new) before out (at + n) × (length out ≡ length after)
put_more {text} {new} {before} {after} {part} {at} {n} w more size =
    let first : length (take at after) ≡ at = length-take-le at after w.within in
    let left : length (drop at after) ≤ length after - at = simp length-drop (omega arith) in
    let lent = take_all (length after - at) (drop at after) left in
    let none : drop (length after - at) (drop at after) ≡ [] = drop_of_length-le _ left in
    let out : put_mid at (length after - at) after part ≡ take at after ++ part = rw (none, append-nil) refl in
    let front = take_at (take at after) part at first in
    let back = drop_at (take at after) part at first in
    let long : length (take at after ++ part) ≡ length after = simp (length-append, first, size) (omega arith) in
    rw out (
      record {
        within = omega arith;
        start = take-add at n (take at after ++ part) ∙ rw (front, back, w.start, more.start) refl;
        rest = sym (drop-drop n at (take at after ++ part)) ∙ rw (back, more.rest, lent, w.rest, drop-drop) refl;
      },
      long,
    )

-- chunk i among the whole ones
pub chunk_at : (n : ℕ) (xs : List ℕ) (k i : ℕ) → i < k → get_or (first_chunks n k xs) i [] ≡ take n (drop (i * n) xs)
chunk_at n xs zero i h = absurd (omega arith)
chunk_at n xs (suc k) zero h = rw zero-mul refl
chunk_at n xs (suc k) (suc i) h =
    let next : n + i * n ≡ suc i * n = omega (arith, suc-mul i n) in
    chunk_at n (drop n xs) k i (omega arith) ∙ rw (drop-drop, next) refl

written_length : {text before after : List ℕ} {n : ℕ} → AtStart text before after n → length text ≡ n
written_length {text} {before} {after} {n} w = ap length (sym w.start) ∙ length-take n after ∙ min-eq_left w.within

line_length : (a : Answer ℕ) → length (line_of a) ≤ 17
unfolding line_of hex_line refused_line
line_length (Ok b) = omega arith
line_length (Err q) = omega arith

-- the bytes that a line takes
pub line_room : {before after : List ℕ} {n : ℕ} (a : Answer ℕ) → AtStart (line_of a) before after n → n ≤ 17
line_room {before} {after} {n} a w = rw (← written_length w) (line_length a)

lines_length : (input : List ℕ) (n : ℕ) → length (lines_to input n) ≤ n * 17
unfolding lines_to
lines_length input zero = omega arith
lines_length input (suc n) =
    let one = line_length (answer_of (record_at input n)) in
    let rest = lines_length input n in
    rw (length-append (lines_to input n) (line_of (answer_of (record_at input n)))) (omega arith)

-- the bytes that the lines of n records take
pub lines_room : {before after : List ℕ} {at : ℕ} (input : List ℕ) (n : ℕ) → AtStart (lines_to input n) before after at → at ≤ n * 17
lines_room {before} {after} {at} input n w = rw (← written_length w) (lines_length input n)
