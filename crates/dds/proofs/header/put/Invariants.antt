-- `dds::header::put` meets its contract: field after field goes to its place.
use Rattle.place.proofs.Joined.{Grown}
use Rattle.dds.specs.Layout.{header_field}
use Rattle.dds.proofs.header.put.Given as goal

abbrev pub invariant-loop-k : goal.invariant-loop-k
invariant-loop-k l = Grown (header_field l.fn.size.width l.fn.size.height l.snorm) 4 l.initial.out l.out l.k
