use Rattle.std.proofs.Common.{length, ap}
use Rattle.std.proofs.lemmas.List.{length-map}
use Rattle.scale_info_types.proofs.ShapeAndReferences.{shape_and_references}
use Rattle.scale_info_types.proofs.laws.same_shape_same_counts.Goals as goal

-- a shape is a content too, of a reading to which all types are alike
pub returns : goal.returns
returns g c = λ a b e.
    let counts =
    ap length ((shape_and_references {R = Unit {0}} (λ _. tt) (λ _. tt) g.T.Form.text a b).0 e).1 in
    simp length-map at counts
