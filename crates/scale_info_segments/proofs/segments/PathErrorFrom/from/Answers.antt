use Rattle.std.proofs.Common.{refl}
use Rattle.scale_info_segments.proofs.segments.PathErrorFrom.from.Goals as goal

pub returns : goal.returns
returns c dropped = refl
