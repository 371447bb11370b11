use Rattle.compress.specs.Network.{sorted}
use Rattle.compress.proofs.Steps.{run_append}
use Rattle.compress.proofs.network.sorted.Goals as goal

pub returns : goal.returns
unfolding sorted
returns c =
    let entry = c.capped-s.ensures in record {
      is_sorted = simp (c.pass-10.ensures, c.pass-9.ensures, c.pass-8.ensures, c.pass-7.ensures, c.pass-6.ensures, c.pass-5.ensures, c.pass-4.ensures, c.pass-3.ensures, c.pass-2.ensures, c.pass.ensures, entry.value, run_append);
      fit = rw entry.value at entry.fit;
    }
