use Rattle.scale_info_references.proofs.Replaced.{ids_replaced}
use Rattle.scale_info_references.proofs.laws.ids_of_references.Goals as goal

pub returns : goal.returns
returns g c id_of d = ids_replaced id_of g.T.Form.text d
