use Rattle.std.proofs.Common.{rules}
use Rattle.scale_info_json_tree.proofs.ty.TypeParameterPortableFormObject.read_members.Goals as goal

pub returns-clause-ok : goal.returns-clause-ok
returns-clause-ok c = search rules

pub returns-in_err-ty-clause-shape : goal.returns-in_err-ty-clause-shape
returns-in_err-ty-clause-shape c = search rules
