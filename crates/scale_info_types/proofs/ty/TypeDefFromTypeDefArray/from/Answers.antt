use Rattle.std.proofs.Common.{refl}
use Rattle.scale_info_types.proofs.ty.TypeDefFromTypeDefArray.from.Goals as goal

pub returns : goal.returns
returns g c = refl
