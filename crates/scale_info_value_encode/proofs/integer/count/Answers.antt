use Rattle.scale_info_value_encode.proofs.Appending.{appends_map}
use Rattle.scale_info_value_encode.proofs.Texts.{encodes_count}
use Rattle.scale_info_value_encode.proofs.integer.count.Goals as goal

pub returns-clause-ok : goal.returns-clause-ok
returns-clause-ok c = appends_map (encodes_count c.args.items) c.in_ok-encode_compact.ensures.ok
