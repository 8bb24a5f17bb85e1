use Rattle.std.proofs.Common.{rules}
use Rattle.scale_info_walk.proofs.laws.equal_retain_errors.Goals as goal

pub returns : goal.returns
returns c = search rules
