-- `dds::header::fields_of` meets its contract: the fields that are not set are 0.
use Rattle.place.proofs.Places.{size_good, size_small}
use Rattle.std.proofs.Common.{rules}
use Rattle.dds.proofs.header.fields_of.Goals as goal

pub overflow_cast-all : goal.overflow_cast-all
overflow_cast-all c = let good = size_good _ _ c.args.size.good in search rules

pub overflow_cast-all-2 : goal.overflow_cast-all-2
overflow_cast-all-2 c = let good = size_good _ _ c.args.size.good in search rules

pub overflow_cast-all-3 : goal.overflow_cast-all-3
overflow_cast-all-3 c = let small = size_small _ _ c.args.size.good in search rules
