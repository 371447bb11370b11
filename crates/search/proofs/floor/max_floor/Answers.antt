use Rattle.search.proofs.floor.max_floor.Goals as goal

pub returns : goal.returns
unfolding lib.Ieee.of_bits
returns c = rw (c.sum.ensures, c.f32.ensures)
