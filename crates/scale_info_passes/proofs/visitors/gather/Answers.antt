use Rattle.std.proofs.Common.{rules}
use Rattle.scale_info_passes.proofs.visitors.gather.Goals as goal

pub returns-clause-some : goal.returns-clause-some
returns-clause-some g c = search rules
