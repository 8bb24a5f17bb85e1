use Rattle.scale_info_numberings.proofs.FourComposites.{declared_match, no_other_shape}
use Rattle.scale_info_numberings.proofs.laws.examples.matches.Goals as goal

pub returns-clause-same : goal.returns-clause-same
returns-clause-same c = declared_match

pub returns-clause-another_shape : goal.returns-clause-another_shape
returns-clause-another_shape c = no_other_shape
