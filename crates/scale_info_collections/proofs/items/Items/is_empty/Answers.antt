use Rattle.std.proofs.Common.{rules, arith}
use Rattle.std.proofs.lemmas.Grind.{common_steps}
use Rattle.scale_info_collections.proofs.items.Items.is_empty.Goals as goal

pub returns : goal.returns
returns g c = grind (arith, common_steps, rules)
