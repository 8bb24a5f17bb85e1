use Rattle.std.proofs.Common.{not, ◌∙◌, ap, map, rules, of_calls}
use Rattle.std.proofs.lemmas.List.Elements.{filter_from_retain}
use Rattle.scale_info_types.specs.MetaDescriptions.{type_term}
use Rattle.scale_info_types.specs.Phantoms.{is_phantom}
use Rattle.scale_info_types.proofs.Phantoms.{map-filter}
use Rattle.scale_info_types.proofs.build.tuple.without_phantom_types.Goals as goal

pub returns : goal.returns
returns c =
    let kept =
    filter_from_retain _ (λ x. not (is_phantom (type_term x)))
    (λ p x b q called. search (rules, of_calls)) _ _ _ c.retain.ensures.filtered
    in ap (map type_term) kept ∙ map-filter type_term (λ t. not (is_phantom t)) c.args.types.items
