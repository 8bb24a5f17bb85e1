use Rattle.std.proofs.Common.{rules}
use Rattle.scale_info_segments.proofs.segments.path_segments.Goals as goal

pub returns-in-Some-clause-invalid : goal.returns-in-Some-clause-invalid
returns-in-Some-clause-invalid c = search rules
