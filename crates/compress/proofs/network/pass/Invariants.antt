use mathlib.Core.Path.{◌≡◌}
use Prim.Native.Nat.{◌-◌, ◌≤◌}
use Rattle.compress.specs.Network.{smaller_first, run, steps_from, pass}
use Rattle.compress.proofs.network.pass.Given as goal

abbrev pub invariant-loop-i : goal.invariant-loop-i
invariant-loop-i l = (l.i ≤ l.i-end) × (run smaller_first (steps_from l.p l.r l.d l.i (l.i-end - l.i)) l.s ≡ run smaller_first (pass l.p l.r l.d) l.initial.s)
