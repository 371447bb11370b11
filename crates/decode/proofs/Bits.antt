-- A float by its bits: `magnitude` is how many of 2 ^ -149 it is.
use mathlib.Core.Path.{◌≡◌, sym, ◌∙◌, subst}
use Prim.Native.Nat.{ℕ, zero, suc, ◌+◌, ◌*◌, ◌/◌, ◌%◌, ◌^◌, ◌<◌}
use native.Mathlib.Nat.{eq_of_mul-eq-mul_right, mul-one}
use mathlib.Core.Bool.{Bool, true, false, cond}
use lib.Dec.{T, leb, eqb, nleb→lt}
use lib.Ieee.{Float, nan, inf, fin, binary32, of_bits, to_bits, of_fields, odd, down, fits}
use lib.Ieee.Fits.{down_pos}
use lib.Ieee.Exact.{HasValue, odd_sign}
use lib.Ieee.Bits.{of_bits-to_bits}
use Rattle.floats.proofs.Tests.{so_not}
use Rattle.decode.specs.Exact.{scaled, magnitude}

-- x is not negative, and n units of 2 ^ -149
abbrev pub Units : Float → ℕ → Type 0
Units x n = HasValue x false n (2 ^ 149)

-- a float has one sign and one size
pub value_same : (x : Float) (s t : Bool) (a b c : ℕ) → HasValue x s a c → HasValue x t b c → (s ≡ t) × (a ≡ b)
value_same nan s t a b c p q = absurd p
value_same (inf u) s t a b c p q = absurd p
value_same (fin u m e) s t a b c p q = (sym p.0 ∙ q.0, eq_of_mul-eq-mul_right (down e) (down_pos e) a b (sym p.1 ∙ q.1))

fields : (s : Bool) (x t n : ℕ) → Units (of_fields binary32 s x t) n → (s ≡ false) × (scaled x t ≡ n)
unfolding of_fields
fields s zero t n h =
    let e = value_same (odd 24 s t 0 149) s false (t * 1) n (2 ^ 149) (odd_sign 24 s t 0 149) h in
    (e.0, sym (mul-one t) ∙ e.1)
fields s (suc x) t n h = go (eqb (suc x) 255) h
  where
    infinite : (b : Bool) → Units (cond b (inf s) nan) n → ⊥
    infinite true u = u
    infinite false u = u

    go : (b : Bool) → Units (cond b (cond (eqb t 0) (inf s) nan) (odd 24 s (2 ^ 23 + t) x 149)) n → (s ≡ false) × ((2 ^ 23 + t) * 2 ^ x ≡ n)
    go true u = absurd (infinite (eqb t 0) u)
    go false u = value_same (odd 24 s (2 ^ 23 + t) x 149) s false ((2 ^ 23 + t) * 2 ^ x) n (2 ^ 149) (odd_sign 24 s (2 ^ 23 + t) x 149) u

of_bits_units : (b n : ℕ) → Units (of_bits binary32 b) n → (b < 2 ^ 31) × (magnitude b ≡ n)
unfolding of_bits
of_bits_units b n h =
    let r = fields (leb (2 ^ 31) b) (b % 2 ^ 31 / 2 ^ 23) (b % 2 ^ 23) n h in
    (nleb→lt (2 ^ 31) b (so_not r.0), r.1)

pub to_bits_units : (x : Float) (n : ℕ) → T (fits binary32 x) → Units x n → (to_bits binary32 x < 2 ^ 31) × (magnitude (to_bits binary32 x) ≡ n)
to_bits_units x n f h = of_bits_units (to_bits binary32 x) n (subst (λ (z : Float). Units z n) (sym (of_bits-to_bits binary32 x f)) h)
