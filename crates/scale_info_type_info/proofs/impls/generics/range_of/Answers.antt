use Rattle.std.proofs.Common.{rules}
use Rattle.scale_info_type_info.proofs.impls.generics.range_of.Goals as goal

pub returns : goal.returns
returns g c = search rules
