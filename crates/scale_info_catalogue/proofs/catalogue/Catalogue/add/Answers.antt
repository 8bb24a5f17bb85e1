use Rattle.std.proofs.Common.{rules}
use Rattle.scale_info_catalogue.proofs.catalogue.Catalogue.add.Goals as goal

pub returns-clause-conflict : goal.returns-clause-conflict
returns-clause-conflict g c = search rules

pub returns-clause-known : goal.returns-clause-known
returns-clause-known g c = search rules

pub returns-clause-new : goal.returns-clause-new
returns-clause-new g c = search rules
