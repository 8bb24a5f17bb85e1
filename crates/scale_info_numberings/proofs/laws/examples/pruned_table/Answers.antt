use Rattle.scale_info_numberings.proofs.FourComposites.{pruned_from_d}
use Rattle.scale_info_numberings.proofs.laws.examples.pruned_table.Goals as goal

pub returns : goal.returns
returns c = pruned_from_d
