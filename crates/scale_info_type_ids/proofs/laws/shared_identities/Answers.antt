use Rattle.std.proofs.Common.{rules}
use Rattle.scale_info_type_ids.proofs.laws.shared_identities.Goals as goal

pub returns-clause-boxed : goal.returns-clause-boxed
returns-clause-boxed g c = search rules

pub returns-clause-phantom_data : goal.returns-clause-phantom_data
returns-clause-phantom_data g c = search rules
