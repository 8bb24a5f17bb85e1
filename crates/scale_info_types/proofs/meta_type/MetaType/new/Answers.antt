use Rattle.std.proofs.Common.{rules}
use Rattle.scale_info_types.proofs.meta_type.MetaType.new.Goals as goal

pub returns : goal.returns
returns g c = search rules
