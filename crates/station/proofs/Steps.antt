-- Editions that lie within 32,767 steps of one: their difference tells which is newer.
use mathlib.Core.Path.{◌≡◌}
use Prim.Native.Nat.{ℕ, ◌+◌, ◌-◌, ◌%◌, ◌<◌, ◌≤◌}
use native.Mathlib.Omega.{arith}
use Rattle.station.specs.Editions.{wrap, halfway, edition_in, entry_of, ahead}

-- k steps after base
abbrev after : ℕ → ℕ → ℕ
after base k = (base + k) % wrap

pub newer : (base h k : ℕ) → h < k → k ≤ 32767 → ahead (after base k) (after base h) ≡ k - h
newer base h k l m = omega arith

pub same : (base k : ℕ) → ahead (after base k) (after base k) ≡ 0
same base k = omega arith

pub older : (base h k : ℕ) → k < h → h ≤ 32767 → halfway < ahead (after base k) (after base h)
older base h k l m = omega arith

-- an entry that was made of an edition is read as it
pub entry_read : (base k : ℕ) → edition_in (entry_of (after base k)) ≡ after base k
entry_read base k = omega arith
