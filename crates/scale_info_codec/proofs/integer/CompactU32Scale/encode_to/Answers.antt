use Rattle.std.proofs.Common.{rules}
use Rattle.scale_info_codec.proofs.integer.CompactU32Scale.encode_to.Goals as goal

pub returns-clause-ok : goal.returns-clause-ok
returns-clause-ok c = search rules
