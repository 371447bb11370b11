-- bc4.rs, `reference_brute_force`: of all pairs of bytes in range, and both palettes, the first of least palette error. Unsigned only.
use Rattle.std.specs.Prelude.{List, false, cond, ℕ, zero, suc, ◌+◌, ◌-◌, ltb, Float}
use Rattle.std.specs.Float.{inf}
use Rattle.std.specs.Float.Ieee.{lt}
use Rattle.floats.specs.Arithmetic.{◌⊕◌, ◌⊖◌, ◌⊗◌, f1, f2, f255}
use Rattle.floats.specs.Helpers.{byte_of}
use Rattle.floats.specs.declared.Pair.{Pair}
use Rattle.end_points.specs.declared.EndPoints.{EndPoints}
use Rattle.end_points.specs.EndPoints.{of_bytes, exchanged}
use Rattle.palette.specs.declared.Kind.{Kind}
use Rattle.palette.specs.declared.Kind.TheVariants.{Six, Four}
use Rattle.palette.specs.PaletteError.{palette_error}
use Rattle.coding.specs.declared.Coded.{Coded}
use Rattle.coding.specs.Coding.{ended}

-- what is held, or the bytes of these endpoints if their palette error is strictly smaller
unfoldable pub mode_tried : Kind → List Float → Coded → EndPoints → Coded
mode_tried kind b best e =
    let error = palette_error kind b e.c0_f e.c1_f in
    cond (lt error best.error) (record { bytes = (ended kind b false e).bytes; error = error }) best

-- one pair: six values, then four
unfoldable pub pair_tried : List Float → Coded → ℕ → ℕ → Coded
pair_tried b best min max = let e = of_bytes max min false in mode_tried Four b (mode_tried Six b best e) (exchanged e)

-- min with n values of max, from `first` on
unfoldable pub maxes_tried : List Float → Coded → ℕ → ℕ → ℕ → Coded
maxes_tried b best min first zero = best
maxes_tried b best min first (suc n) = pair_tried b (maxes_tried b best min first n) min (first + n)

-- the values of max for one of min: from the larger of `least` and min + 1 to 255
abbrev pub first_max : ℕ → ℕ → ℕ
first_max least min = cond (ltb least (min + 1)) (min + 1) least

-- the first n values of min, each with all of max
unfoldable pub mins_tried : List Float → ℕ → Coded → ℕ → Coded
mins_tried b least best zero = best
mins_tried b least best (suc n) = maxes_tried b (mins_tried b least best n) n (first_max least n) (256 - first_max least n)

abbrev pub min_limit : Float → ℕ
min_limit largest = byte_of (largest ⊗ f255 ⊕ f2)

abbrev pub least_max : Float → ℕ
least_max smallest = byte_of (smallest ⊗ f255 ⊖ f1)

unfoldable pub searched : List Float → Pair → ℕ
searched b p = (mins_tried b (least_max p.0) (record { bytes = 0; error = inf false }) (min_limit p.1)).bytes
