use Rattle.scale_info_numberings.proofs.FourComposites.{path_to_d, no_path_to_d, c_past_b}
use Rattle.scale_info_numberings.proofs.FourComposites.{d_not_past_b}
use Rattle.scale_info_numberings.proofs.laws.examples.paths.Goals as goal

pub returns-clause-to_d : goal.returns-clause-to_d
returns-clause-to_d c = path_to_d

pub returns-clause-no_path : goal.returns-clause-no_path
returns-clause-no_path c = no_path_to_d

pub returns-clause-past_b : goal.returns-clause-past_b
returns-clause-past_b c = c_past_b

pub returns-clause-not_past_b : goal.returns-clause-not_past_b
returns-clause-not_past_b c = d_not_past_b
