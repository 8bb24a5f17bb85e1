use Rattle.std.proofs.Common.{◌∙◌, length, ap}
use Rattle.scale_info_identities.specs.contracts.type_id.TypeIdPartialEq.TheImpl.{ghosts as equals}
use Rattle.scale_info_registry.specs.Registrations.{index_in}
use Rattle.scale_info_registry.proofs.Numbered.{number_or_next}
use Rattle.scale_info_registry.proofs.registry.conversion.Identities.id.Goals as goal

pub returns : goal.returns
returns c =
    let ids = c.args.self.now.interner.now in
    let number = c.number_of-number in
    c.from.ensures
    ∙ (c.unwrap_or.ensures
    ∙ (number_or_next ids c.type_id.result.now number.result _ c.elements-ids.ensures.distinct number.ensures.found number.ensures.known (ap (λ xs. length xs) c.elements-ids.ensures.list)
    ∙ ap (λ t. index_in equals.eq ids t) c.type_id.ensures))
