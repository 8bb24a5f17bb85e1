use Rattle.std.proofs.Common.{subst, length, ◌<◌}
use Rattle.std.specs.Int.{byte_len}
use Rattle.scale_info_value.specs.IntegerWidths.{width_of, integer_of}
use Rattle.scale_info_value.proofs.Integers.{value_missing}
use Rattle.scale_info_value.proofs.primitive.integer.Goals as goal

pub returns-then-input-bytes-clause-err : goal.returns-then-input-bytes-clause-err
returns-then-input-bytes-clause-err c =
    value_missing (integer_of c.args.width c.args.signed) (byte_len (width_of c.args.width)) c.args.input.now
    (subst (λ w. length c.args.input.now < w) c.bytes.ensures c.if-input-bytes.true)
