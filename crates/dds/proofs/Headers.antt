-- The headers of a file that is not refused are there, and so is where its body starts.
use mathlib.Core.Path.{◌≡◌, refl}
use mathlib.Core.Bool.{Bool, true, false, cond, ◌&&◌}
use mathlib.Core.List.{List}
use Prim.Native.Nat.{ℕ, ◌≤◌}
use native.Mathlib.Omega.{arith}
use lib.Dec.{ltb}
use lib.ListN.{length}
use borrow.Author.Tests.{ltb-false}
use Rattle.std.specs.declared.result.Result.TheVariants.{Ok}
use Rattle.refusal.specs.Refusals.{first_of}
use Rattle.refusal.proofs.Firsts.{first_clear}
use Rattle.dds.specs.Layout.{header_length, extended_length, extended, body_at, Whole}
use Rattle.dds.specs.Checks.{read_checks}

second_false : (a b : Bool) → a && b ≡ false → a ≡ true → b ≡ false
second_false true b e t = e
second_false false b e t = absurd (let z : ◌≡◌ {A = ℕ} 0 1 = cc in omega arith)

pub whole : (file : List ℕ) → header_length ≤ length file → extended file && ltb (length file) extended_length ≡ false → Whole file
whole file h e = record { header = h; extension = λ t. ltb-false (length file) extended_length (second_false (extended file) _ e t) }

pub read_whole : (file : List ℕ) → first_of (read_checks file) ≡ Ok tt → Whole file
read_whole file passed =
    let clear = first_clear (read_checks file) passed in
    whole file (ltb-false (length file) header_length clear.0) clear.1.0

pub body_within : (file : List ℕ) → Whole file → body_at file ≤ length file
unfolding body_at
body_within file w = go (extended file) refl
  where
    go : (t : Bool) → extended file ≡ t → cond t extended_length header_length ≤ length file
    go true e = w.extension e
    go false e = w.header

-- so that it is small
pub body_near : (file : List ℕ) → body_at file ≤ extended_length
unfolding body_at
body_near file = go (extended file)
  where
    go : (t : Bool) → cond t extended_length header_length ≤ extended_length
    go true = omega arith
    go false = omega arith
