use Rattle.std.proofs.Common.{map, sym, ◌∙◌}
use Rattle.scale_info_identities.specs.TypeIds.{term_of}
use Rattle.scale_info_types.proofs.Contents.{and_same, same_list, through}
use Rattle.std.proofs.lemmas.List.{map-id}
use Rattle.scale_info_registry.proofs.laws.equal_registries.Goals as goal

pub returns : goal.returns
returns c = λ a b.
    and_same _ _ (same_list _ term_of c.equal_type_ids.ensures a.identities b.identities)
    (through (same_list _ (λ ty. ty) c.equal_portable.ensures.description a.types b.types)
    (λ e. sym (map-id a.types) ∙ e ∙ map-id b.types) (λ e i. map (λ ty. ty) (e i)))
