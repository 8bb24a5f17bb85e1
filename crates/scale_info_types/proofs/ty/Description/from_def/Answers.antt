use Rattle.std.proofs.Common.{refl}
use Rattle.scale_info_types.proofs.ty.Description.from_def.Goals as goal

pub returns-clause-type_def : goal.returns-clause-type_def
returns-clause-type_def g c = refl
