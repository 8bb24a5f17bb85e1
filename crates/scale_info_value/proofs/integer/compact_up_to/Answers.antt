use Rattle.std.proofs.Common.{rules}
use Rattle.scale_info_value.proofs.integer.compact_up_to.Goals as goal

pub returns-then-n-most-clause-err : goal.returns-then-n-most-clause-err
returns-then-n-most-clause-err c = search rules
