use Rattle.scale_info_value_encode.proofs.Levels.{written_as_read}
use Rattle.scale_info_value_encode.proofs.laws.written_as_read.Goals as goal

pub returns : goal.returns
returns c = written_as_read
