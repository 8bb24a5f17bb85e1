use Rattle.scale_info_references.proofs.Replaced.{shape_stays}
use Rattle.scale_info_references.proofs.laws.same_shape.Goals as goal

pub returns : goal.returns
returns g c id_of d = shape_stays id_of g.T.Form.text d
