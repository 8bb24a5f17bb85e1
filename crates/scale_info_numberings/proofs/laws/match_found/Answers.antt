use Rattle.scale_info_numberings.proofs.Matches.{match_found}
use Rattle.scale_info_numberings.proofs.laws.match_found.Goals as goal

pub returns : goal.returns
returns g c = match_found
