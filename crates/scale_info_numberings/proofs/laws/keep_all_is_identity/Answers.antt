use Rattle.scale_info_numberings.proofs.Pruned.{keep_all_is_identity, keep_all_table}
use Rattle.scale_info_numberings.proofs.laws.keep_all_is_identity.Goals as goal

pub returns-clause-numbering : goal.returns-clause-numbering
returns-clause-numbering g c = keep_all_is_identity

pub returns-clause-table : goal.returns-clause-table
returns-clause-table g c = keep_all_table
