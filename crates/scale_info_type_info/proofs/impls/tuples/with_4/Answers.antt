use Rattle.std.proofs.Common.{[], ◌∷◌, ◌≡◌, map, subst}
use Rattle.std.proofs.lemmas.List.{append_assoc}
use Rattle.std.specs.Result.{IfOk}
use Rattle.scale_info_types.specs.MetaDescriptions.{type_term}
use Rattle.scale_info_type_info.proofs.impls.tuples.with_4.Goals as goal

pub returns : goal.returns
returns g c = λ before is.
    subst (λ terms. IfOk c.with_2-2.result (λ all. map type_term all.items ≡ terms))
    (append_assoc before (g.A.Identity.Identified.own ∷ g.B.Identity.Identified.own ∷ []) (g.C.Identity.Identified.own ∷ g.D.Identity.Identified.own ∷ []))
    (c.with_2-2.ensures _ (c.with_2.ensures before is))
