use Rattle.scale_info_table_metadata.proofs.Forms.{one_metadata}
use Rattle.scale_info_table_metadata.proofs.laws.one_metadata.Goals as goal

pub returns : goal.returns
returns c = λ input after other p q. one_metadata p q
