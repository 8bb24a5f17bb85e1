use Rattle.std.proofs.Common.{rules}
use Rattle.scale_info_build.proofs.fields.kept.Goals as goal

pub returns : goal.returns
returns g c = search rules
