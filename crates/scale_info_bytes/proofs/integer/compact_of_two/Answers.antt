use Rattle.std.proofs.Common.{arith}
use Rattle.scale_info_bytes.proofs.CompactAt.{prefix_two}
use Rattle.scale_info_bytes.proofs.integer.compact_of_two.Goals as goal

pub returns-else-integer-lt64-clause-some : goal.returns-else-integer-lt64-clause-some
returns-else-integer-lt64-clause-some c =
    prefix_two _ c.args.first c.args.rest.now c.ranges.first c.type_inv.rest
    c.in-len1-up.len_at_least (omega arith) (omega arith)
