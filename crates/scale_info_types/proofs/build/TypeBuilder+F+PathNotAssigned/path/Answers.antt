use Rattle.std.proofs.Common.{rules}
use Rattle.scale_info_types.proofs.build.TypeBuilder+F+PathNotAssigned.path.Goals as goal

pub returns-clause-path : goal.returns-clause-path
returns-clause-path g c = search rules
