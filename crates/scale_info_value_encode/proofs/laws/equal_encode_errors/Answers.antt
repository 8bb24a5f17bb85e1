use Rattle.scale_info_value_encode.proofs.EqualErrors.{same_error}
use Rattle.scale_info_value_encode.proofs.laws.equal_encode_errors.Goals as goal

pub returns : goal.returns
returns c = λ a b. same_error a b
