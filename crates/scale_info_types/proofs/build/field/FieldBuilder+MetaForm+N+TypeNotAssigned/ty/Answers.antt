use Rattle.std.proofs.Common.{rules}
use Rattle.scale_info_types.proofs.build.field.FieldBuilder+MetaForm+N+TypeNotAssigned.ty.Goals as goal

pub returns-clause-ty : goal.returns-clause-ty
returns-clause-ty g c = search rules
