use Rattle.scale_info_value_encode.proofs.Appending.{appends_map}
use Rattle.scale_info_value_encode.proofs.Texts.{encodes_compact}
use Rattle.scale_info_value_encode.proofs.integer.compact.Goals as goal

pub returns-then-n-le4294967295-clause-ok : goal.returns-then-n-le4294967295-clause-ok
returns-then-n-le4294967295-clause-ok c = appends_map (encodes_compact c.args.n) c.in_ok-encode_compact.ensures.ok
