use Rattle.scale_info_numberings.proofs.Extensions.{one_numbering}
use Rattle.scale_info_numberings.proofs.laws.one_numbering.Goals as goal

pub returns : goal.returns
returns g c = one_numbering
