use Rattle.scale_info_numberings.proofs.Tables.{old_entries_stay}
use Rattle.scale_info_numberings.proofs.laws.old_entries_stay.Goals as goal

pub returns : goal.returns
returns g c = old_entries_stay
