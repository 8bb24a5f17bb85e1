use Rattle.std.proofs.Common.{rules, arith}
use Rattle.std.proofs.lemmas.Grind.{common_steps}
use Rattle.scale_info_bytes.proofs.integer.decode_u32.Goals as goal

pub returns-in-len4-up-clause-some : goal.returns-in-len4-up-clause-some
returns-in-len4-up-clause-some c = grind (arith, common_steps, rules)
