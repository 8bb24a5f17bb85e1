use Rattle.scale_info_numberings.proofs.Reached.{reached_exactly, extension_holds}
use Rattle.scale_info_numberings.proofs.laws.reached_exactly.Goals as goal

pub returns-clause-numbering : goal.returns-clause-numbering
returns-clause-numbering g c = reached_exactly

pub returns-clause-extension : goal.returns-clause-extension
returns-clause-extension g c = extension_holds
