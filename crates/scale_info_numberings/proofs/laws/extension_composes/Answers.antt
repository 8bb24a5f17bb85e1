use Rattle.scale_info_numberings.proofs.ExtensionOfExtension.{numbering_extends, extension_composes}
use Rattle.scale_info_numberings.proofs.laws.extension_composes.Goals as goal

pub returns-clause-numbering : goal.returns-clause-numbering
returns-clause-numbering g c = numbering_extends

pub returns-clause-extension : goal.returns-clause-extension
returns-clause-extension g c = extension_composes
