use Rattle.scale_info_registry.proofs.Steps.{grows_by_none, grows_by_one}
use Rattle.scale_info_registry.proofs.laws.catalogue_grows.Goals as goal

pub returns-clause-one_more : goal.returns-clause-one_more
returns-clause-one_more c = grows_by_one

pub returns-clause-same : goal.returns-clause-same
returns-clause-same c = grows_by_none
