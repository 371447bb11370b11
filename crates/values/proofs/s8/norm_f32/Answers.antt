use Rattle.std.proofs.Common.{true, rules}
use Rattle.values.proofs.Levels.{level_value_products}
use Rattle.values.proofs.s8.norm_f32.Goals as goal

pub returns : goal.returns
returns c = level_value_products true c.args.n (search rules)
