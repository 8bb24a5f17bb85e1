use Rattle.std.proofs.Common.{sym}
use Rattle.scale_info_types.proofs.ty.TypeDefTryClone.try_clone.Goals as goal

pub returns-in-Primitive : goal.returns-in-Primitive
returns-in-Primitive g c = sym c.in-Primitive.is
