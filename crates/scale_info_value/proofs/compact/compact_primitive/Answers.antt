use Rattle.std.proofs.Common.{rules}
use Rattle.scale_info_value.proofs.compact.compact_primitive.Goals as goal

pub returns-in-U32-clause-err : goal.returns-in-U32-clause-err
returns-in-U32-clause-err c = search rules

pub returns-in-U32-clause-ok : goal.returns-in-U32-clause-ok
returns-in-U32-clause-ok c = search rules
