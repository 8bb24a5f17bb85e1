use Rattle.std.proofs.Common.{rules}
use Rattle.scale_info_segments.proofs.laws.equal_path_errors.Goals as goal

pub returns : goal.returns
returns c = search rules
