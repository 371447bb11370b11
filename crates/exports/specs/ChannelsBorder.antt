-- How the answers of `bc5` cross to C: what each lent place holds after the call. A refused call leaves them as they were.
use Rattle.bc5.specs.declared.Errors.{Errors as BothErrors}
use Rattle.bc5.specs.declared.Halves.{Halves}
use Rattle.bc5.specs.declared.Kept.{Kept}
use Rattle.std.specs.Prelude.{cond, List, [], ◌∷◌, ◌++◌, ℕ, Float}
use Rattle.index_list.specs.Layout.{bytes_of}
use Rattle.place.specs.Place.{bc5_size, block_at}
use Rattle.refusal.specs.Refusals.{Answer, Checked, answered}
use Rattle.bc5.specs.Calls.{halves_bytes}
use Rattle.exports.specs.Border.{after}

abbrev pub pair_after : Answer Halves → List ℕ → List ℕ
pair_after = after halves_bytes

-- the first channel's, and the second's
abbrev pub pair_errors_after : Answer BothErrors → List Float → List Float
pair_errors_after = after (λ e. e.first ∷ e.second ∷ [])

abbrev pub pair_held_after : Answer Kept → List ℕ → List ℕ
pair_held_after = after (λ h. bytes_of h.first.block ++ bytes_of h.second.block)

-- of each half 1 where it is the fresh one, else 0
abbrev pub pair_fresh_after : Answer Kept → List ℕ → List ℕ
pair_fresh_after = after (λ h. cond h.first.fresh 1 0 ∷ cond h.second.fresh 1 0 ∷ [])

abbrev pub pair_offset_after : Checked → ℕ → ℕ → ℕ → ℕ → ℕ
pair_offset_after checked width column row before = answered (λ q. before) (block_at bc5_size width column row) checked
