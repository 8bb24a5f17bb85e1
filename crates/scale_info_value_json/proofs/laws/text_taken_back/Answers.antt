use Rattle.scale_info_value_json.proofs.ShownLevels.{read_taken_back}
use Rattle.scale_info_value_json.proofs.laws.text_taken_back.Goals as goal

pub returns : goal.returns
returns c = read_taken_back
