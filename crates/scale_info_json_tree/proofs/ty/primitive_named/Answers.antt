use Rattle.std.proofs.Common.{rules}
use Rattle.scale_info_json_tree.proofs.ty.primitive_named.Goals as goal

pub returns-in-u128-clause-some : goal.returns-in-u128-clause-some
returns-in-u128-clause-some c = search rules
