-- One refinement: rounds of up to four candidates, as long as the step is above the least one. bcn_util.rs, `refine_endpoints` with its f32
-- steps; document 01, "Encoder steps".
use Rattle.std.specs.Prelude.{List, cond, ℕ, zero, suc, ◌%◌, eqb, ltb, Float}
use Rattle.std.specs.Float.Ieee.{neg, lt}
use Rattle.floats.specs.Arithmetic.{◌⊕◌, ◌⊗◌, f0, half}
use Rattle.floats.specs.Helpers.{clamp_of}
use Rattle.floats.specs.declared.Pair.{Pair}
use Rattle.palette.specs.declared.Kind.{Kind}
use Rattle.palette.specs.PaletteError.{palette_error}
use Rattle.refine.specs.declared.rounds.Held.{Held}

-- a pair with its palette error
unfoldable pub held : Kind → List Float → Float → Float → Held
held kind b min max = record { min = min; max = max; error = palette_error kind b min max }

-- what is held, or the candidate if its error is strictly smaller: equal errors keep the old pair
unfoldable pub better : Kind → List Float → Held → Float → Float → Held
better kind b h min max = cond (lt (palette_error kind b min max) h.error) (held kind b min max) h

-- The four candidates in turn: min up, max up, min down, max down.
abbrev pub moved : Float → ℕ → Float
moved step i = cond (ltb i 2) step (neg step)

abbrev pub delta_min : Float → ℕ → Float
delta_min step i = cond (eqb (i % 2) 0) (moved step i) f0

abbrev pub delta_max : Float → ℕ → Float
delta_max step i = cond (eqb (i % 2) 0) f0 (moved step i)

-- one candidate; one whose low end is not below its high end is passed over
unfoldable pub tried : Kind → List Float → Held → Float → Float → Held
tried kind b h min max = cond (lt min max) (better kind b h min max) h

-- after the first i candidates, all of which start from the round's pair and not from the one just accepted
unfoldable pub tried_to : Kind → List Float → Held → Float → ℕ → Held
tried_to kind b start step zero = start
tried_to kind b start step (suc i) = tried kind b (tried_to kind b start step i) (clamp_of (start.min ⊕ delta_min step i)) (clamp_of (start.max ⊕ delta_max step i))

abbrev pub round : Kind → List Float → Held → Float → Held
round kind b start step = tried_to kind b start step 4

-- at most n rounds, the step halved from round to round
unfoldable pub rounds : Kind → List Float → Float → ℕ → Float → Held → Held
rounds kind b least zero step h = h
rounds kind b least (suc n) step h = cond (lt least step) (rounds kind b least n (step ⊗ half) (round kind b h step)) h

-- the pair that one refinement ends on
unfoldable pub refined : Kind → List Float → Float → ℕ → Float → Float → Float → Pair
refined kind b least n step min max = let h = rounds kind b least n step (held kind b min max) in record { 0 = h.min; 1 = h.max }
