use Rattle.scale_info_numberings.proofs.ExtensionOfExtension.{any_registrations}
use Rattle.scale_info_numberings.proofs.laws.any_registrations.Goals as goal

pub returns : goal.returns
returns g c = any_registrations
