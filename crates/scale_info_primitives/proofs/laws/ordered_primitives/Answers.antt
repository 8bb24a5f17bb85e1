use Rattle.std.proofs.Common.{rules}
use Rattle.scale_info_primitives.proofs.laws.ordered_primitives.Goals as goal

pub returns : goal.returns
returns c = search rules
