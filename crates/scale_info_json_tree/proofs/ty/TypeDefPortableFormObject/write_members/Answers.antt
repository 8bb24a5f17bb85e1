use Rattle.std.proofs.lemmas.Result.{on_ok_weaker}
use Rattle.scale_info_json_tree.proofs.ty.TypeDefPortableFormObject.write_members.Goals as goal

pub returns-in-BitSequence-clause-ok : goal.returns-in-BitSequence-clause-ok
returns-in-BitSequence-clause-ok g c = on_ok_weaker c.write_member-in-BitSequence.result (λ e. rw c.in-BitSequence.is e) c.write_member-in-BitSequence.ensures.ok
