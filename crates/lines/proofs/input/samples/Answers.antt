-- `lines::input::samples` meets its contract: each sample is the float of its four bytes.
use lib.Ieee.{binary32, nan, of_bits}
use Rattle.std.proofs.Common.{rules}
use Rattle.block.proofs.Made.{made}
use Rattle.lines.specs.Input.{pattern_at, samples_of}
use Rattle.lines.proofs.input.samples.Goals as goal

pub returns : goal.returns
unfolding samples_of
returns c = made _ _ (λ i. of_bits binary32 (pattern_at c.args.record.now i)) 16 (λ i y q l k. search rules) nan _ c.from_fn.ensures.items
