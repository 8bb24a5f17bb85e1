use Rattle.scale_info_json_tree.specs.ObjectLaws.{table_law}
use Rattle.scale_info_json_tree.proofs.laws.one_meaning.Goals as goal

pub returns : goal.returns
returns c = table_law.unique
