use Rattle.scale_info_identities.specs.TypeIdLaws.{same_type_ids}
use Rattle.scale_info_identities.proofs.laws.equal_type_ids.Goals as goal

pub returns : goal.returns
returns c = same_type_ids
