use Rattle.std.proofs.Common.{rules}
use Rattle.scale_info_collections.proofs.items.RefItemsIntoIterator.into_iter.Goals as goal

pub returns : goal.returns
returns g c = search rules
