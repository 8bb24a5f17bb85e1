use Rattle.std.proofs.Common.{rules}
use Rattle.scale_info_collections.proofs.items.ItemsPartialOrd.partial_cmp.Goals as goal

pub returns : goal.returns
returns g c = search rules
