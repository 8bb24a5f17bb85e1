use Rattle.scale_info_value_json.proofs.OneTree.{one_tree, read_as, shallow_read}
use Rattle.scale_info_value_json.proofs.laws.one_tree.Goals as goal

pub returns-clause-unique : goal.returns-clause-unique
returns-clause-unique c = one_tree

pub returns-clause-read : goal.returns-clause-read
returns-clause-read c = read_as

pub returns-clause-shallow : goal.returns-clause-shallow
returns-clause-shallow c = shallow_read
