use Rattle.std.proofs.Common.{rules}
use Rattle.scale_info_types.proofs.build.field.FieldBuilder+F+NameAssigned+F+String+TypeAssigned+F+Ty.finalize.Goals as goal

pub returns : goal.returns
returns g c = search rules
