-- bc4.rs, the loop of `inter4_reassign_defaults`, in the Rust's own form, for reading beside it: a move that fails is only noted, and the loop breaks
-- where the same side is next again. The encoder is defined by `walked` of Inter4, which ends at the first move that fails; that the two come to the
-- same is `walked_is_loop` in proofs/.
use Rattle.std.specs.Prelude.{List, Bool, true, false, cond, ℕ, zero, suc, ◌+◌, ◌-◌, leb, Float}
use Rattle.std.specs.Float.Ieee.{lt}
use Rattle.floats.specs.Arithmetic.{◌⊖◌, f1}
use Rattle.palette.specs.declared.Kind.TheVariants.{Four}
use Rattle.palette.specs.PaletteError.{palette_error}
use Rattle.refine.specs.declared.rounds.Held.{Held}
use Rattle.compress.specs.Sorted.{placed}

pub data LastMove : Type 0 where
  None Min Max : LastMove

abbrev pub is_min : LastMove → Bool
is_min None = false
is_min Min = true
is_min Max = false

abbrev pub is_max : LastMove → Bool
is_max None = false
is_max Min = false
is_max Max = true

-- the loop's variables
pub record Loop : Type 0 where
  pub min : Float
  pub max : Float
  pub error : Float
  pub min_index : ℕ
  pub max_index : ℕ
  pub last_failed_move : LastMove

-- move min up, or note that it failed; values[k] of the Rust, the sorted samples, is `placed b k`
unfoldable pub move_min : List Float → Loop → Loop
move_min b s =
    let new_min = placed b (s.min_index + 1) in
    let new_error = palette_error Four b new_min s.max in
    cond (lt new_error s.error)
    (record { min = new_min; max = s.max; error = new_error; min_index = s.min_index + 1; max_index = s.max_index; last_failed_move = s.last_failed_move })
    (record { min = s.min; max = s.max; error = s.error; min_index = s.min_index; max_index = s.max_index; last_failed_move = Min })

-- move max down, or note that it failed
unfoldable pub move_max : List Float → Loop → Loop
move_max b s =
    let new_max = placed b (s.max_index - 1) in
    let new_error = palette_error Four b s.min new_max in
    cond (lt new_error s.error)
    (record { min = s.min; max = new_max; error = new_error; min_index = s.min_index; max_index = s.max_index - 1; last_failed_move = s.last_failed_move })
    (record { min = s.min; max = s.max; error = s.error; min_index = s.min_index; max_index = s.max_index; last_failed_move = Max })

-- at most n turns, of MAX_ITER = 4; to break is to stay at s
unfoldable pub looped : List Float → ℕ → Loop → Loop
looped b zero s = s
looped b (suc n) s =
    let min_dist = s.min in
    let max_dist = f1 ⊖ s.max in
    -- if min_index >= max_index { break; }
    cond (leb s.max_index s.min_index) s
    -- if min_dist < max_dist { if last_failed_move == LastMove::Min { break; } ..
    (cond (lt min_dist max_dist)
    (cond (is_min s.last_failed_move) s (looped b n (move_min b s)))
    -- } else { if last_failed_move == LastMove::Max { break; } ..
    (cond (is_max s.last_failed_move) s (looped b n (move_max b s))))

-- the pair of a state, with its error
abbrev pub held_in : Loop → Held
held_in s = record { min = s.min; max = s.max; error = s.error }
