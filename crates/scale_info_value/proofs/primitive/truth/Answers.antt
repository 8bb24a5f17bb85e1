use Rattle.std.proofs.Common.{rules}
use Rattle.scale_info_value.proofs.primitive.truth.Goals as goal

pub returns-in-1-clause-ok : goal.returns-in-1-clause-ok
returns-in-1-clause-ok c = search rules
