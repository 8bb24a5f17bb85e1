use Rattle.scale_info_value_encode.proofs.Pruned.{writes_alike}
use Rattle.scale_info_value_encode.proofs.laws.writes_alike.Goals as goal

pub returns : goal.returns
returns c = writes_alike
