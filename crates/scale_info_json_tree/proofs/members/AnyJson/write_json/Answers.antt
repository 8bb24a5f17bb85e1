use Rattle.std.proofs.Common.{◌∙◌, ap}
use Rattle.std.proofs.lemmas.Result.{on_ok_weaker}
use Rattle.scale_info_json_trees.proofs.Objects.{object_text, text_before}
use Rattle.scale_info_json_tree.proofs.members.AnyJson.write_json.Goals as goal

pub returns-clause-before : goal.returns-clause-before
returns-clause-before g c =
    let rows = g.T.Object.rows c.args.self.now in
    on_ok_weaker c.end_object.result (λ _. c.end_object.ensures.room.0 ∙ ap (λ s. s.0) c.in_ok-write_members.ensures.ok ∙ text_before rows _ ∙ c.begin_object.ensures.room.0) c.end_object.ensures.ok

pub returns-clause-ok : goal.returns-clause-ok
returns-clause-ok g c =
    let rows = g.T.Object.rows c.args.self.now in
    on_ok_weaker c.end_object.result (object_text rows _ _ _ _ _ c.in_ok-begin_object.ensures.ok c.in_ok-write_members.ensures.ok) c.end_object.ensures.ok
