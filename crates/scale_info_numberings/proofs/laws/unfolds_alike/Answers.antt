use Rattle.scale_info_numberings.proofs.Tables.{unfolds_alike}
use Rattle.scale_info_numberings.proofs.laws.unfolds_alike.Goals as goal

pub returns : goal.returns
returns g c = unfolds_alike
