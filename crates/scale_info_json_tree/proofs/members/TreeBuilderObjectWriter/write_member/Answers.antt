use Rattle.scale_info_json_tree.proofs.members.TreeBuilderObjectWriter.write_member.Goals as goal

pub returns-clause-ok : goal.returns-clause-ok
returns-clause-ok g c =
    let h = c.put.ensures.ok in
    rw c.in_ok-tree.ensures.ok at h
