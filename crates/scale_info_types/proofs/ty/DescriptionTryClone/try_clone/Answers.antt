use Rattle.std.proofs.Common.{rules}
use Rattle.scale_info_types.proofs.ty.DescriptionTryClone.try_clone.Goals as goal

pub returns : goal.returns
returns g c = search rules
