-- `lines::input::float_of` meets its contract: a pattern is a NaN's if its magnitude is above infinity's.
use mathlib.Core.Path.{◌≡◌, sym}
use Prim.Native.Nat.{ℕ, ◌/◌, ◌%◌, ◌^◌, ◌<◌}
use native.Mathlib.Omega.{arith}
use lib.Ieee.{nan, binary32, of_bits, div}
use lib.Ieee.Bits.{nan_bits_above}
use borrow.Author.Tests.{ne_eqb, le-ltb}
use Rattle.lines.proofs.input.float_of.Goals as goal

nan-of : (n : ℕ) → 0x7f80_0000 < n % 0x8000_0000 → of_bits binary32 n ≡ nan
unfolding of_bits
nan-of n h =
    let exponent : n % 2 ^ 31 / 2 ^ 23 ≡ 255 = omega arith in
    let digits : n % 2 ^ 23 ≡ 0 → ⊥ = λ z. omega arith in
    rw (exponent, ne_eqb _ _ digits)

pub returns-then-n-gt2139095040 : goal.returns-then-n-gt2139095040
unfolding of_bits div
returns-then-n-gt2139095040 c = sym (nan-of c.args.n c.if-n-gt2139095040.true)

pub float_from_bits-result : goal.float_from_bits-result
float_from_bits-result c = rw (nan_bits_above binary32 c.args.n, le-ltb _ _ c.if-n-gt2139095040.false) tt
