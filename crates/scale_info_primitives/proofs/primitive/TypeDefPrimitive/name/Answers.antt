use Rattle.std.proofs.Common.{ap, sym}
use Rattle.scale_info_primitives.specs.Primitives.{primitive_name}
use Rattle.scale_info_primitives.proofs.primitive.TypeDefPrimitive.name.Goals as goal

pub returns-in-U128 : goal.returns-in-U128
returns-in-U128 c = ap primitive_name (sym c.in-U128.is)
