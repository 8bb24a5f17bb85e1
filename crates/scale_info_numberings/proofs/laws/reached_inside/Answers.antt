use Rattle.scale_info_numberings.proofs.Reached.{numbering_inside, extension_inside}
use Rattle.scale_info_numberings.proofs.laws.reached_inside.Goals as goal

pub returns-clause-numbering : goal.returns-clause-numbering
returns-clause-numbering g c = numbering_inside

pub returns-clause-extension : goal.returns-clause-extension
returns-clause-extension g c = extension_inside
