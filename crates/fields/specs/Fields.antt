-- Little-endian fields: a number in so many bytes, the lowest first. What the bytes of a number are is said in `index_list`.
use Rattle.std.specs.Prelude.{List, ℕ, take, drop}
use Rattle.index_list.specs.Layout.{bytes_of, from_bytes}

-- the number that n bytes from `at` on hold
abbrev pub field_at : ℕ → List ℕ → ℕ → ℕ
field_at n bytes at = from_bytes (take n (drop at bytes))

-- the n bytes, eight at the most, that hold a number
abbrev pub field_of : ℕ → ℕ → List ℕ
field_of n x = take n (bytes_of x)
