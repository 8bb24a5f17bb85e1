use Rattle.std.proofs.Common.{rules}
use Rattle.scale_info_type_info.proofs.impls.generics.ResultTypeInfo.type_info.Goals as goal

pub returns-clause-ok : goal.returns-clause-ok
returns-clause-ok g c = search rules
