use Rattle.std.proofs.Common.{rules}
use Rattle.scale_info_segments.proofs.utils.is_letter.Goals as goal

pub returns-else-byte-eq95 : goal.returns-else-byte-eq95
returns-else-byte-eq95 c = search rules
