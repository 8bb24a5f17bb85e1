use Rattle.scale_info_json_tree.proofs.Objects.{view-Null}
use Rattle.scale_info_json_tree.proofs.members.TreeBuilderObjectWriter.write_null.Goals as goal

pub returns : goal.returns
returns c =
    let h = c.put.ensures.ok in
    rw view-Null at h
