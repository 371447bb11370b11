use Rattle.std.proofs.Common.{false, rules}
use Rattle.values.proofs.Levels.{level_value_products}
use Rattle.values.proofs.n8.f32.Goals as goal

pub returns : goal.returns
returns c = level_value_products false c.args.x (search rules)
