use Rattle.scale_info_numberings.proofs.Matches.{match_exactly}
use Rattle.scale_info_numberings.proofs.laws.match_exactly.Goals as goal

pub returns : goal.returns
returns g c = match_exactly
