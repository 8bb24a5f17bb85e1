use Rattle.std.proofs.Common.{rules}
use Rattle.scale_info_type_ids.proofs.impls.primitives.CharIdentified.type_id.Goals as goal

pub returns : goal.returns
returns c = search rules
