-- `lines::output::hex` meets its contract: the digits of each byte, in order, and a line feed.
use Rattle.std.proofs.Common.{rules, refl, [], ◌∷◌, ◌/◌, ◌%◌}
use Rattle.lines.specs.Output.{digit, hex_line}
use Rattle.fields.proofs.Mapped.{mapped}
use Rattle.lines.proofs.output.hex.Goals as goal

pub returns : goal.returns
unfolding hex_line
returns c =
    let pairs = mapped _ (λ b. digit (b / 16) ∷ digit (b % 16) ∷ []) 0 [] (λ p q x y k. search rules) (search rules) c.map-pairs.ensures.items in
    rw (c.copy_from_slice.ensures.after, c.as_flattened.ensures.value, pairs, c.bytes.ensures) refl
