use Rattle.std.proofs.Common.{rules}
use Rattle.scale_info_json_tree.proofs.ty.TypeDefBitSequencePortableFormObject.read_members.Goals as goal

pub returns-clause-ok : goal.returns-clause-ok
returns-clause-ok c = search rules
