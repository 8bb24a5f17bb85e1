use Rattle.scale_info_numberings.proofs.Pruned.{pruned_reading, pruned_numbering, pruned_table}
use Rattle.scale_info_numberings.proofs.laws.fresh_equals_pruned.Goals as goal

pub returns : goal.returns
returns g c =
    record { reading = pruned_reading; numbering = pruned_numbering; table = pruned_table }
