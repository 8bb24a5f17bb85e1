use Rattle.scale_info_numberings.proofs.Extensions.{numbering_grows, extension_grows}
use Rattle.scale_info_numberings.proofs.laws.growth_keeps.Goals as goal

pub returns-clause-numbering : goal.returns-clause-numbering
returns-clause-numbering g c = numbering_grows

pub returns-clause-extension : goal.returns-clause-extension
returns-clause-extension g c = extension_grows
