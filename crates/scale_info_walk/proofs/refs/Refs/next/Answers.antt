use Rattle.std.proofs.Common.{rules, arith}
use Rattle.std.proofs.lemmas.Grind.{common_steps}
use Rattle.scale_info_walk.proofs.refs.Refs.next.Goals as goal

pub returns : goal.returns
returns c = grind (arith, common_steps, rules)
