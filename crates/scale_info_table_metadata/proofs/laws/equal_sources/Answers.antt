use Rattle.std.proofs.Common.{rules}
use Rattle.scale_info_table_metadata.proofs.laws.equal_sources.Goals as goal

pub returns : goal.returns
returns c = search rules
