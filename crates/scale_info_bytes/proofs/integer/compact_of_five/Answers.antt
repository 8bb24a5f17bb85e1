use Rattle.std.proofs.Common.{arith}
use Rattle.scale_info_bytes.proofs.CompactAt.{prefix_five}
use Rattle.scale_info_bytes.proofs.integer.compact_of_five.Goals as goal

pub returns-else-integer-lt1073741824-clause-some : goal.returns-else-integer-lt1073741824-clause-some
returns-else-integer-lt1073741824-clause-some c =
    prefix_five _ c.args.first c.args.rest.now c.if-first-ne3.false c.type_inv.rest
    c.in-len4-up.len_at_least (omega arith) (omega arith)
