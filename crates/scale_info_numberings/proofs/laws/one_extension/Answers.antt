use Rattle.scale_info_numberings.proofs.Extensions.{one_extension}
use Rattle.scale_info_numberings.proofs.laws.one_extension.Goals as goal

pub returns : goal.returns
returns g c = one_extension
