use Rattle.std.proofs.Common.{◌∙◌, ap}
use Rattle.serde_json.proofs.Views.{view-Object}
use Rattle.serde_json.specs.Data.{object}
use Rattle.scale_info_json_tree.proofs.Objects.{put_rows}
use Rattle.scale_info_json_tree.proofs.members.AnyJson.to_json.Goals as goal

pub returns-clause-ok : goal.returns-clause-ok
returns-clause-ok g c =
    let h = c.in_ok-write_members.ensures.ok in
    view-Object c.write_members.new.out.members ∙ ap object (rw c.new.ensures.empty at h ∙ put_rows (g.T.Object.rows c.args.self.now) (g.met.T.Object.ordered c.args.self.now))
