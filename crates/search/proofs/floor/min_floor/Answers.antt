use Rattle.search.proofs.floor.min_floor.Goals as goal

pub returns : goal.returns
unfolding lib.Ieee.of_bits
returns c = rw (c.sum.ensures, c.f32.ensures)
