use Rattle.scale_info_numberings.proofs.FirstReference.{extension_unfolds}
use Rattle.scale_info_numberings.proofs.laws.extension_unfolds.Goals as goal

pub returns : goal.returns
returns g c = extension_unfolds
