use Rattle.scale_info_value_json.proofs.ShownLevels.{json_and_bytes}
use Rattle.scale_info_value_json.proofs.laws.json_and_bytes.Goals as goal

pub returns : goal.returns
returns c = json_and_bytes
