use Rattle.std.proofs.Common.{ap}
use Rattle.scale_info_value.specs.declared.value.Value.TheVariants as Values
use Rattle.scale_info_value.specs.Outcomes.{outcome_map}
use Rattle.scale_info_value.proofs.Errors.{failed_as}
use Rattle.scale_info_value.proofs.decode.compact_value.Goals as goal

pub returns-in_err-integer-clause-err : goal.returns-in_err-integer-clause-err
returns-in_err-integer-clause-err g c =
    failed_as c.from_residual.result c.in_err-integer.field-0.0 c.from_residual.ensures.1 _
    (ap (λ o. outcome_map Values.Unsigned o) c.in_err-integer.ensures.err)
