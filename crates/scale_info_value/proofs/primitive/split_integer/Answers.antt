use Rattle.std.proofs.Common.{arith}
use Rattle.scale_info_value.specs.PrimitiveValues.{owned_value}
use Rattle.scale_info_value.proofs.Integers.{integer_read}
use Rattle.scale_info_value.proofs.primitive.split_integer.Goals as goal

pub returns-clause-value : goal.returns-clause-value
returns-clause-value c =
    integer_read c.args.width c.args.signed c.bytes.result c.args.input.now (owned_value c.integer_of.result)
    c.split_at.result.0.now c.split_at.result.1.now (omega arith) c.bytes.ensures c.integer_of.ensures.value
    c.split_at.ensures.front c.split_at.ensures.back
