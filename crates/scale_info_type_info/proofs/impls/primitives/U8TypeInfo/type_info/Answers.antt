use Rattle.std.proofs.Common.{rules}
use Rattle.scale_info_type_info.proofs.impls.primitives.U8TypeInfo.type_info.Goals as goal

pub returns-clause-ok : goal.returns-clause-ok
returns-clause-ok c = search rules
