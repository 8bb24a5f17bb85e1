use Rattle.std.proofs.Common.{rules}
use Rattle.scale_info_collections.proofs.items.Items.push_towards.Goals as goal

pub returns-clause-list : goal.returns-clause-list
returns-clause-list g c = search rules
