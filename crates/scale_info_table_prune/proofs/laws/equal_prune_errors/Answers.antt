use Rattle.std.proofs.Common.{rules}
use Rattle.scale_info_table_prune.proofs.laws.equal_prune_errors.Goals as goal

pub returns : goal.returns
returns c = search rules
