use Rattle.scale_info_types.proofs.ShapeAndReferences as agreement
use Rattle.scale_info_types.proofs.laws.shape_and_references_of.Goals as goal

pub returns : goal.returns
returns g c =
    agreement.shape_and_references g.T.Form.reference g.T.Form.reference g.T.Form.text
