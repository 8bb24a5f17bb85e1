use Rattle.std.proofs.Common.{rules}
use Rattle.scale_info_collections.proofs.items.ItemsFromVec.from.Goals as goal

pub returns : goal.returns
returns g c = search rules
