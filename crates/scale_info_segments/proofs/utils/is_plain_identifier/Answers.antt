use Rattle.std.proofs.Common.{rules}
use Rattle.scale_info_segments.proofs.utils.is_plain_identifier.Goals as goal

pub returns-in-None : goal.returns-in-None
returns-in-None c = search rules
