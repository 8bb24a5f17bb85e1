use Rattle.scale_info_identities.specs.contracts.type_id.TypeIdOrd.TheImpl.Laws.{is}
use Rattle.scale_info_identities.proofs.laws.ordered_type_ids.Goals as goal

pub returns : goal.returns
returns c = λ a b. is a b
