use Rattle.scale_info_numberings.proofs.Tables.{closed}
use Rattle.scale_info_numberings.proofs.laws.closed.Goals as goal

pub returns : goal.returns
returns g c = closed
