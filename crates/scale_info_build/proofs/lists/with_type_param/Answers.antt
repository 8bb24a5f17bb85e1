use Rattle.std.proofs.Common.{rules, arith}
use Rattle.std.proofs.lemmas.Grind.{common_steps}
use Rattle.scale_info_build.proofs.lists.with_type_param.Goals as goal

pub returns-clause-more : goal.returns-clause-more
returns-clause-more g c = grind (arith, common_steps, rules)
