-- The operations at values in units of binary32's smallest, 2 ^ -149, with what rounding costs.
use Rattle.std.proofs.Common.{◌≡◌, ℕ, ◌+◌, ◌*◌, ◌^◌, ◌<◌, ◌≤◌, Bool, false, not, pos, sym, ap, ◌∙◌, subst, mul_assoc, mul_comm, mul-pos, mul_left_comm, arith, pow_pos}
use lib.Ieee.{Float, binary32, unlike, round, add, sub, mul, div, of_int}
use lib.Ieee.Exact.{HasValue}
use lib.Ieee.Back.{round_whole}
use lib.Ieee.Scale.{round_same}
use Rattle.floats.proofs.ExactResult.{gap, sign_of, sum_is, gap_le, add_at, sub_at, mul_at, div_at}
use Rattle.floats.proofs.Rounding.{Rounds, rounds}

at : {x y : Float} {s : Bool} {v c j : ℕ} → x ≡ y → Rounds y s v c j → Rounds x s v c j
at {x} {y} {s} {v} {c} {j} e r = subst (λ (z : Float). Rounds z s v c j) (sym e) r

within : (g w m : ℕ) → g ≤ w → w ≤ m → g ≤ m * 1
within g w m h k = omega arith

pub add_rounds : (x y : Float) (s t : Bool) (a b j : ℕ) → j ≤ 252 → a + b ≤ 2 ^ (24 + j) → HasValue x s a (2 ^ 149) → HasValue y t b (2 ^ 149)
    → Rounds (add binary32 x y) (sign_of s a t b) (gap s a t b) 1 j
add_rounds x y s t a b j J h p q =
    at (add_at binary32 x y s t a b (2 ^ 149) (pow_pos 149) p q ∙ sum_is binary32 s a t b (2 ^ 149))
    (rounds (sign_of s a t b) (gap s a t b) 1 j (pow_pos 0) J (within (gap s a t b) (a + b) (2 ^ (24 + j)) (gap_le s a t b) h))

pub sub_rounds : (x y : Float) (s t : Bool) (a b j : ℕ) → j ≤ 252 → a + b ≤ 2 ^ (24 + j) → HasValue x s a (2 ^ 149) → HasValue y t b (2 ^ 149)
    → Rounds (sub binary32 x y) (sign_of s a (not t) b) (gap s a (not t) b) 1 j
sub_rounds x y s t a b j J h p q =
    at (sub_at binary32 x y s t a b (2 ^ 149) (pow_pos 149) p q ∙ sum_is binary32 s a (not t) b (2 ^ 149))
    (rounds (sign_of s a (not t) b) (gap s a (not t) b) 1 j (pow_pos 0) J (within (gap s a (not t) b) (a + b) (2 ^ (24 + j)) (gap_le s a (not t) b) h))

-- y is b / d
pub mul_rounds : (x y : Float) (s t : Bool) (a b d j : ℕ) → j ≤ 252 → 0 < d → a * b ≤ 2 ^ (24 + j) * d → HasValue x s a (2 ^ 149) → HasValue y t b d
    → Rounds (mul binary32 x y) (unlike s t) (a * b) d j
mul_rounds x y s t a b d j J D h p q =
    at (mul_at binary32 x y s t a (2 ^ 149) b d (pow_pos 149) D p q ∙ ap (λ (z : ℕ). round binary32 (unlike s t) (a * b) z) (mul_comm (2 ^ 149) d))
    (rounds (unlike s t) (a * b) d j D J h)

-- a whole number over another
pub ratio : (x y : Float) (a b j : ℕ) → j ≤ 252 → 0 < b → a * 2 ^ 149 ≤ 2 ^ (24 + j) * b → HasValue x false a 1 → HasValue y false b 1 → Rounds (div binary32 x y) false (a * 2 ^ 149) b j
ratio x y a b j J B h p q =
    at (div_at binary32 x y false false a 1 b 1 (pow_pos 0) (pow_pos 0) B p q
    ∙ round_same binary32 false (a * 1) (b * 1) (a * 2 ^ 149) (b * 2 ^ 149) (mul-pos B (pow_pos 0)) (mul-pos B (pow_pos 149)) (simp (mul_assoc, mul_comm, mul_left_comm)))
    (rounds false (a * 2 ^ 149) b j B J h)

pub whole_at : (n : ℕ) → n ≤ 2 ^ 24 → HasValue (of_int binary32 (pos n)) false n 1
unfolding of_int
whole_at n h = round_whole binary32 false n h
