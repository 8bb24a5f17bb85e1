use Rattle.std.proofs.Common.{rules, arith}
use Rattle.std.proofs.lemmas.Grind.{common_steps}
use Rattle.scale_info_passes.proofs.pass.visit_verbatim.Goals as goal

pub returns : goal.returns
returns g c = grind (arith, common_steps, rules)
