use mathlib.Core.Path.{refl, ap, ◌∙◌}
use mathlib.Core.Bool.{true, false}
use mathlib.Core.List.{List}
use Prim.Native.Nat.{ℕ}
use lib.ListN.{get_or}
use Rattle.decode.proofs.Laws.{picked_decoded}
use Rattle.decode.proofs.decode_into.Goals as goal

pub returns-then-snorm : goal.returns-then-snorm
returns-then-snorm c =
    let byte = λ (j : ℕ). ap (λ (b : List ℕ). get_or b j 0) c.to_le_bytes.ensures in
    rw c.if-snorm.true
    (c.look_up.ensures
    ∙ picked_decoded true c.args.block _ _ _ _ _ _ _ (byte 0) (byte 1) c.norm.ensures c.norm-then-snorm.ensures c.end_values-e.ensures c.is_six.ensures c.eight_values.ensures)

pub returns-else-snorm : goal.returns-else-snorm
returns-else-snorm c =
    let byte = λ (j : ℕ). ap (λ (b : List ℕ). get_or b j 0) c.to_le_bytes.ensures in
    rw c.if-snorm.false
    (c.look_up-else-snorm.ensures
    ∙ picked_decoded false c.args.block _ _ _ _ _ _ _ (byte 0) (byte 1) refl refl c.end_values-e-else-snorm.ensures c.is_six-else-snorm.ensures c.eight_values-else-snorm.ensures)
