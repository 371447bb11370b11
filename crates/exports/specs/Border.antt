-- How the answers of `bc4` cross to C: a refusal's number, with 0 for none, and what each lent place holds after the call. A refused call leaves
-- every place as it was, but for the four numbers of the detail, which a refusal that has something to say writes.
use Rattle.bc4.specs.declared.Kept.{Kept}
use Rattle.std.specs.Prelude.{cond, List, ℕ, ◌/◌, ◌%◌, ◌^◌, Float}
use Rattle.index_list.specs.Layout.{bytes_of}
use Rattle.place.specs.Place.{bc4_size, block_at}
use Rattle.std.specs.declared.result.Result.TheVariants.{Ok, Err}
use Rattle.bc4.specs.declared.word.Word.{Word}
use Rattle.refusal.specs.Refusals.{Answer, Checked, number_of, detail_of, answered}
use Rattle.bc4.specs.Word.{word_of}

-- the options word, byte 0 lowest
abbrev pub word_of_number : ℕ → Word
word_of_number options = word_of (options % 2 ^ 8) (options / 2 ^ 8 % 2 ^ 8) (options / 2 ^ 16 % 2 ^ 8) (options / 2 ^ 24)

-- ---- a refusal, or none
abbrev pub number_in : Checked → ℕ
number_in = answered number_of 0

abbrev pub detail_after : Checked → List ℕ → List ℕ
detail_after checked before = answered (λ q. detail_of q before) before checked

-- What a lent place holds after a call: what `value` makes of the answer, or what it held before where the call refuses.
abbrev pub after : {A B : Type 0} → (A → B) → Answer A → B → B
after value (Ok a) before = value a
after value (Err q) before = before

abbrev pub block_after : Answer ℕ → List ℕ → List ℕ
block_after = after bytes_of

abbrev pub error_after : Answer Float → Float → Float
error_after = after (λ e. e)

abbrev pub held_after : Answer Kept → List ℕ → List ℕ
held_after = after (λ h. bytes_of h.block)

-- 1 where the bytes are the fresh ones, else 0
abbrev pub fresh_after : Answer Kept → ℕ → ℕ
fresh_after = after (λ h. cond h.fresh 1 0)

-- of a tile or of a file
abbrev pub written_after : Answer ℕ → ℕ → ℕ
written_after = after (λ n. n)

abbrev pub offset_after : Checked → ℕ → ℕ → ℕ → ℕ → ℕ
offset_after checked width column row before = answered (λ q. before) (block_at bc4_size width column row) checked
