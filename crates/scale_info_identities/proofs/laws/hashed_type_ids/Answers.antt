use Rattle.scale_info_identities.specs.contracts.type_id.TypeIdHash.TheImpl.Laws.{respects_eq-law}
use Rattle.scale_info_identities.proofs.laws.hashed_type_ids.Goals as goal

pub returns : goal.returns
returns c = respects_eq-law
