use Rattle.scale_info_numberings.proofs.Paths.{reached_by_path, reached_by_path_past}
use Rattle.scale_info_numberings.proofs.laws.reached_by_path.Goals as goal

pub returns-clause-reached : goal.returns-clause-reached
returns-clause-reached g c = reached_by_path

pub returns-clause-past : goal.returns-clause-past
returns-clause-past g c = reached_by_path_past
