use Rattle.std.proofs.Common.{rules}
use Rattle.scale_info_walk.proofs.refs.Refs.of.Goals as goal

pub returns-clause-ids : goal.returns-clause-ids
returns-clause-ids c = search rules
