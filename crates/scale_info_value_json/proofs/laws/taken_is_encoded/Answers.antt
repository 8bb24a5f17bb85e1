use Rattle.scale_info_value_json.proofs.Encoded.{taken_is_encoded}
use Rattle.scale_info_value_json.proofs.laws.taken_is_encoded.Goals as goal

pub returns : goal.returns
returns c = taken_is_encoded
