use Rattle.scale_info_value_encode.proofs.Levels.{read_back}
use Rattle.scale_info_value_encode.proofs.laws.read_back.Goals as goal

pub returns : goal.returns
returns c = read_back
