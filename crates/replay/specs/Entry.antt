-- An entry of the list: a record of 68 bytes, and the eight bytes that the Rust text answered.
use Rattle.std.specs.Prelude.{List, Bool, true, not, cond, ℕ, zero, suc, ◌+◌, ◌*◌, ◌/◌, ◌^◌, eqb, length, take, drop}
use Rattle.refusal.specs.Refusals.{Answer}
use Rattle.std.specs.declared.result.Result.TheVariants.{Ok, Err}
use Rattle.fields.specs.Fields.{field_at}
use Rattle.replay.specs.declared.Tally.{Tally}
use Rattle.lines.specs.Answers.{answer_of}

-- the eight bytes of the Rust, byte 0 lowest
abbrev pub rust_of : List ℕ → ℕ
rust_of entry = field_at 4 entry 68 + 2 ^ 32 * field_at 4 entry 72

unfoldable pub unlike : Answer ℕ → ℕ → Bool
unlike (Ok b) rust = not (eqb b rust)
unlike (Err q) rust = true

unfoldable pub differs_of : List ℕ → Bool
differs_of entry = unlike (answer_of (take 68 entry)) (rust_of entry)

-- entry i of the list
abbrev pub entry_at : List ℕ → ℕ → List ℕ
entry_at input i = take 76 (drop (i * 76) input)

-- how many of the first n entries differ
unfoldable pub differing_to : List ℕ → ℕ → ℕ
differing_to input zero = 0
differing_to input (suc n) = differing_to input n + cond (differs_of (entry_at input n)) 1 0

-- a tally of records and differing ones, after the whole entries of one more buffer
unfoldable pub tallied : ℕ → ℕ → List ℕ → Tally
tallied records differ input = record { records = records + length input / 76; differ = differ + differing_to input (length input / 76) }
