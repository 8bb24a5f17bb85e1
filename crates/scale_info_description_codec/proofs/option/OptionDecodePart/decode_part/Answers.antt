use Rattle.std.proofs.Common.{arith}
use Rattle.scale_info_bytes.proofs.Index.{begins, prefix_from_index}
use Rattle.scale_info_description_codec.proofs.option.OptionDecodePart.decode_part.Goals as goal

pub returns-in_ok-value-in-1-clause-ok : goal.returns-in_ok-value-in-1-clause-ok
returns-in_ok-value-in-1-clause-ok g c =
    prefix_from_index (begins 1 c.args.input.now c.in-1.len_at_least (omega arith))
    c.in_ok-value-in-1.ensures.ok
