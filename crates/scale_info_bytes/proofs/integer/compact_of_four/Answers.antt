use Rattle.std.proofs.Common.{arith}
use Rattle.scale_info_bytes.proofs.CompactAt.{prefix_four}
use Rattle.scale_info_bytes.proofs.integer.compact_of_four.Goals as goal

pub returns-else-integer-lt16384-clause-some : goal.returns-else-integer-lt16384-clause-some
returns-else-integer-lt16384-clause-some c =
    prefix_four _ c.args.first c.args.rest.now c.ranges.first c.type_inv.rest
    c.in-len3-up.len_at_least (omega arith) (omega arith)
