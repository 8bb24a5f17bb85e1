use Rattle.scale_info_types.proofs.Contents.{same_field}
use Rattle.scale_info_laws.proofs.equalities.equal_fields.Goals as goal

pub returns : goal.returns
returns g c =
    same_field g.T.Ty.PartialEq.eq g.T.String.PartialEq.eq g.T.Form.reference g.T.Form.text
    g.met.T.Form.reference_equal g.met.T.Form.text_equal
