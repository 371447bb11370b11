-- What holds down each of the four lanes holds for all sixteen pixels.
use Prim.Native.Nat.{ℕ, zero, suc, ◌+◌, ◌*◌, ◌/◌, ◌%◌, ◌<◌}
use mathlib.Core.Path.{◌≡◌}
use native.Mathlib.Omega.{arith}

pub each_of_four : (P : ℕ → Type 0) → P 0 × P 1 × P 2 × P 3 → (k : ℕ) → k < 4 → P k
each_of_four P e zero h = e.0
each_of_four P e (suc zero) h = e.1
each_of_four P e (suc (suc zero)) h = e.2
each_of_four P e (suc (suc (suc zero))) h = e.3
each_of_four P e (suc (suc (suc (suc k)))) h = absurd (omega arith)

abbrev pub Down : (ℕ → Type 0) → ℕ → Type 0
Down P j = P j × P (j + 4) × P (j + 8) × P (j + 12)

pub all_lanes : (P : ℕ → Type 0) → ((j : ℕ) → j < 4 → Down P j) → (i : ℕ) → i < 16 → P i
all_lanes P lane i l =
    let d = lane (i % 4) (omega arith) in
    let at : i ≡ i % 4 + 4 * (i / 4) = omega arith in
    let top : i % 4 + 4 * 0 ≡ i % 4 = omega arith in
    rw at (each_of_four (λ row. P (i % 4 + 4 * row)) (rw top d.0, d.1, d.2, d.3) (i / 4) (omega arith))
