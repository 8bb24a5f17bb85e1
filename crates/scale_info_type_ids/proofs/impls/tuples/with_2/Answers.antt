use Rattle.std.proofs.Common.{rules, arith}
use Rattle.std.proofs.lemmas.Grind.{common_steps}
use Rattle.scale_info_type_ids.proofs.impls.tuples.with_2.Goals as goal

pub returns : goal.returns
returns g c = grind (arith, common_steps, rules)
