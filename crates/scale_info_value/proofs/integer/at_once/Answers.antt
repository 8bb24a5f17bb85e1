use Rattle.std.proofs.Common.{arith, sym, ◌∙◌}
use Rattle.scale_info_value.proofs.Integers.{eight_at_once}
use Rattle.scale_info_value.proofs.integer.at_once.Goals as goal

pub returns-in-len8-clause-integer : goal.returns-in-len8-clause-integer
returns-in-len8-clause-integer c =
    c.from_le_bytes-in-len8.ensures ∙ sym (eight_at_once c.args.bytes.now (omega arith))
