use Rattle.scale_info_value_encode.proofs.Levels.{never_read}
use Rattle.scale_info_value_encode.proofs.laws.never_read.Goals as goal

pub returns : goal.returns
returns c = never_read
