use Rattle.std.proofs.Common.{rules}
use Rattle.scale_info_types.proofs.ty.path.Path.from_segments_unchecked.Goals as goal

pub returns : goal.returns
returns g c = search rules
