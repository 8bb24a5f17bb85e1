use Rattle.std.proofs.Common.{[]}
use Rattle.scale_info_value_encode.proofs.SoFar.{passed}
use Rattle.scale_info_value_encode.proofs.compact.+compact.Goals as goal

pub compact_within-returns-in_err-definition-clause-err : goal.compact_within-returns-in_err-definition-clause-err
compact_within-returns-in_err-definition-clause-err g t c =
    passed c.from_residual.result c.in_err-definition.field-0.0 _ [] c.from_residual.ensures.1
    (c.in_err-definition.ensures.unknown c.args.value.now []).1
