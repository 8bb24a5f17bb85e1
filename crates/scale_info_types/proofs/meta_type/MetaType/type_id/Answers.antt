use Rattle.std.proofs.Common.{refl}
use Rattle.scale_info_types.proofs.meta_type.MetaType.type_id.Goals as goal

pub returns : goal.returns
returns c = refl
