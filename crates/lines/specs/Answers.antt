-- What the program answers. Document 01, "The program": the block call's answer, one line per record; a malformed word is refusal 8, after 7.
use Rattle.std.specs.Prelude.{◌≡◌, List, [], ◌++◌, cond, ℕ, zero, suc, ◌*◌, ◌/◌, ◌%◌, ◌≤◌, eqb, length, take, drop}
use Rattle.std.specs.declared.result.Result.TheVariants.{Ok, Err}
use Rattle.refusal.specs.Refusals.{Answer, number_of}
use Rattle.bc4.specs.Word.{encode_by_word}
use Rattle.lines.specs.Input.{record_word, samples_of}
use Rattle.lines.specs.Output.{hex_line, refused_line, short_line}

abbrev pub answer_of : List ℕ → Answer ℕ
answer_of bytes = encode_by_word (samples_of bytes) (record_word bytes)

unfoldable pub line_of : Answer ℕ → List ℕ
line_of (Ok b) = hex_line b
line_of (Err q) = refused_line (number_of q)

-- record i of the input
abbrev pub record_at : List ℕ → ℕ → List ℕ
record_at input i = take 68 (drop (i * 68) input)

-- the lines of the first n records
unfoldable pub lines_to : List ℕ → ℕ → List ℕ
lines_to input zero = []
lines_to input (suc n) = lines_to input n ++ line_of (answer_of (record_at input n))

-- all lines of an input: where a partial record is left, `short` follows them
unfoldable pub text_of : List ℕ → List ℕ
text_of input = lines_to input (length input / 68) ++ cond (eqb (length input % 68) 0) [] short_line

-- A text of n bytes stands at the start, and the bytes after it are as before.
pub record AtStart (text before after : List ℕ) (n : ℕ) : Type 0 where
  pub within : n ≤ length after
  pub start : take n after ≡ text
  pub rest : drop n after ≡ drop n before
