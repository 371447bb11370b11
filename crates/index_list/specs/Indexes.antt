-- Sixteen 3-bit indexes in one number, pixel i at bit 3i. Document 01, "Eight bytes".
use Rattle.std.specs.Prelude.{ℕ, zero, suc, ◌+◌, ◌*◌, ◌/◌, ◌%◌, ◌^◌}

-- the index of pixel i
abbrev pub index_at : ℕ → ℕ → ℕ
index_at d i = d / 2 ^ (3 * i) % 8

-- the number with the index v at pixel i, where 0 stood before
abbrev pub set_at : ℕ → ℕ → ℕ → ℕ
set_at d i v = d + v * 2 ^ (3 * i)

-- the number after pixels 0 to n - 1 were set, in order, to what f gives for each
unfoldable pub filled_to : (ℕ → ℕ) → ℕ → ℕ
filled_to f zero = 0
filled_to f (suc n) = set_at (filled_to f n) n (f n)
