use Rattle.std.proofs.Common.{◌∷◌, [], ◌++◌, map, take, sym, ap, ◌∙◌}
use Rattle.std.proofs.lemmas.List.{map-append, take_more}
use Rattle.scale_info_identities.specs.contracts.type_id.TypeIdPartialEq.TheImpl.{ghosts as equals}
use Rattle.scale_info_registry.specs.Registrations.{index_in}
use Rattle.scale_info_registry.proofs.registry.conversion.all_with_ids.Goals as goal

pub loop-part-preserved : goal.loop-part-preserved
loop-part-preserved g c =
    let f =
    g.P.HasTypes.with_ids (λ ty. index_in equals.eq c.args.ids.now.interner.now ty.identity) in
    let items = c.as_slice-part-items.result.now in
    let i = c.loop-part.part-index in
    let part = c.part-item.result in
    c.in_ok-push.ensures.list
    ∙ ap (λ all. all ++ c.in_ok-with_ids.field-0 ∷ []) c.loop-part.invariant
    ∙ ap (λ o. map f (take i items) ++ o ∷ []) c.in_ok-with_ids.ensures
    ∙ sym
    (ap (map f)
    (take_more items i part c.loop-part-test.true
    ∙ ap (λ t. take i items ++ t ∷ []) (sym c.part-item.is))
    ∙ map-append f (take i items) (part ∷ []))
