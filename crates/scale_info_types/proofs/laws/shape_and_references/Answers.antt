use Rattle.std.proofs.Common.{map, ap}
use Rattle.scale_info_types.proofs.ShapeAndReferences as agreement
use Rattle.scale_info_types.proofs.Inverses.{portable_content}
use Rattle.scale_info_types.proofs.laws.shape_and_references.Goals as goal

pub returns : goal.returns
returns c = λ a b e f.
    portable_content a b
    ((agreement.shape_and_references (λ symbol. symbol.id) (λ symbol. symbol.id) (λ text. text) a b).1 (e, ap (map (λ symbol. symbol.id)) f))
