use Rattle.scale_info_value_encode.proofs.Levels.{one_reading}
use Rattle.scale_info_value_encode.proofs.laws.one_reading.Goals as goal

pub returns : goal.returns
returns c = one_reading
