-- How much a buffer adds to a tally.
use Rattle.std.proofs.Common.{◌≡◌, ℕ, zero, suc, ◌+◌, ◌/◌, ◌≤◌, List, Bool, true, false, cond, length, refl, arith}
use native.Mathlib.Numerals.{add-one}
use Rattle.replay.specs.declared.Tally.{Tally}
use Rattle.replay.specs.Entry.{differs_of, entry_at, differing_to, tallied}

-- one entry more
pub differing_more : (input : List ℕ) (i : ℕ) → differing_to input (i + 1) ≡ differing_to input i + cond (differs_of (entry_at input i)) 1 0
unfolding differing_to
differing_more input i = rw add-one refl

one_more : (d : Bool) (m n : ℕ) → m ≤ n → m + cond d 1 0 ≤ suc n
one_more true m n h = omega arith
one_more false m n h = omega arith

pub differing_le : (input : List ℕ) (n : ℕ) → differing_to input n ≤ n
unfolding differing_to
differing_le input zero = omega arith
differing_le input (suc n) = one_more (differs_of (entry_at input n)) (differing_to input n) n (differing_le input n)

-- a buffer adds at most 860 records
pub tally_most : (records differ : ℕ) (input : List ℕ) {t : Tally} → t ≡ tallied records differ input → length input ≤ 65360 → differ ≤ records
    → (t.records ≤ records + 860) × (t.differ ≤ t.records)
unfolding tallied
tally_most records differ input {t} e l d = let some = differing_le input (length input / 76) in rw e (omega arith, omega arith)
