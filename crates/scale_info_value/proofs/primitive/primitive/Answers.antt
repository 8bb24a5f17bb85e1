use Rattle.scale_info_value.proofs.Errors.{failed_as}
use Rattle.scale_info_value.proofs.primitive.primitive.Goals as goal

pub returns-in_err-value-clause-err : goal.returns-in_err-value-clause-err
returns-in_err-value-clause-err c =
    failed_as c.from_residual.result c.in_err-value.field-0.0 c.from_residual.ensures.1 _ c.in_err-value.ensures.err
