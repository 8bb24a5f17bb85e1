use Rattle.std.proofs.Common.{rules}
use Rattle.scale_info_types.proofs.build.TypeBuilder+MetaForm+PathAssigned+MetaForm.variant.Goals as goal

pub returns-clause-type_def : goal.returns-clause-type_def
returns-clause-type_def g c = search rules
