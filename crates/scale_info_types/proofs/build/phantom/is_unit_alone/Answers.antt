use Rattle.std.proofs.Common.{rules, arith}
use Rattle.std.proofs.lemmas.Grind.{common_steps}
use Rattle.scale_info_types.proofs.Phantoms.{no_arguments}
use Rattle.scale_info_types.proofs.build.phantom.is_unit_alone.Goals as goal

pub returns-else-is_empty : goal.returns-else-is_empty
returns-else-is_empty c =
    let none = no_arguments c.in-Some.others.now in grind (arith, common_steps, rules, none)
