use Rattle.scale_info_identities.specs.TypeIdLaws.{same_type_ids}
use Rattle.scale_info_laws.proofs.orders.ordered_meta_types.Goals as goal

pub returns-clause-equal : goal.returns-clause-equal
returns-clause-equal c = λ a b. same_type_ids a.identity b.identity
