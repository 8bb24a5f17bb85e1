use Rattle.std.proofs.Common.{rules}
use Rattle.scale_info_types.proofs.laws.comparisons.ordered_definitions.Goals as goal

pub returns-clause-maps : goal.returns-clause-maps
returns-clause-maps g c = search rules
