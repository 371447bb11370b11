-- What holds of both holds of the one of smaller error.
use mathlib.Core.Bool.{Bool, true, false, cond}
use lib.Ieee.{lt}
use Rattle.coding.specs.declared.Coded.{Coded}
use Rattle.coding.specs.Coding.{smaller}

pub smaller_one : (P : Coded → Type 0) (best next : Coded) → P best → P next → P (smaller best next)
smaller_one P best next p q = go (lt next.error best.error)
  where
    go : (t : Bool) → P (cond t next best)
    go true = q
    go false = p
