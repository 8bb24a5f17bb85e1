use Rattle.std.proofs.Common.{refl}
use Rattle.scale_info_types.proofs.build.field.FieldBuilder.type_name.Goals as goal

pub returns-clause-type_name : goal.returns-clause-type_name
returns-clause-type_name g c = refl
