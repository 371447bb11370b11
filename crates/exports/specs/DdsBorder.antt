-- How the answers of `dds` cross to C: what each lent place holds after the call. A refused call leaves them as they were.
use Rattle.dds.specs.declared.Picture.{Picture}
use Rattle.std.specs.Prelude.{cond, ℕ}
use Rattle.refusal.specs.Refusals.{Answer}
use Rattle.exports.specs.Border.{after}

abbrev pub width_after : Answer Picture → ℕ → ℕ
width_after = after (λ p. p.width)

abbrev pub height_after : Answer Picture → ℕ → ℕ
height_after = after (λ p. p.height)

-- 1 where the blocks are signed, else 0
abbrev pub snorm_after : Answer Picture → ℕ → ℕ
snorm_after = after (λ p. cond p.snorm 1 0)

-- where the tile's bytes start
abbrev pub start_after : Answer Picture → ℕ → ℕ
start_after = after (λ p. p.start)
