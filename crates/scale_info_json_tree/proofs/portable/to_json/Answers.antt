use Rattle.std.proofs.Common.{rules}
use Rattle.scale_info_json_tree.proofs.portable.to_json.Goals as goal

pub returns-clause-means : goal.returns-clause-means
returns-clause-means c = search rules

pub returns-clause-ok : goal.returns-clause-ok
returns-clause-ok c = search rules
