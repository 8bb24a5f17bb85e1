use Rattle.scale_info_value_json.proofs.ShownLevels.{written_taken_back}
use Rattle.scale_info_value_json.proofs.laws.encoded_text_taken_back.Goals as goal

pub returns : goal.returns
returns c = written_taken_back
