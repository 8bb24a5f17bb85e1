use Rattle.std.proofs.lemmas.Result.{IfOk-weaker}
use Rattle.serde_json.specs.View.{view}
use Rattle.scale_info_json_tree.proofs.Errors.{shape_weaker}
use Rattle.scale_info_json_tree.proofs.Under.{list_found, no_list_found}
use Rattle.scale_info_json_tree.proofs.read_members.list_or_empty.Goals as goal

pub returns-clause-ok : goal.returns-clause-ok
returns-clause-ok g c = IfOk-weaker c.from_json.result _ _ (λ vs m. list_found g.T.Json.meant c.args.key.now (view c.args.tree.now) c.in-Some.ensures m) c.from_json.ensures.ok

pub returns-clause-shape : goal.returns-clause-shape
returns-clause-shape g c = shape_weaker c.from_json.result (λ n. no_list_found g.T.Json.meant c.args.key.now (view c.args.tree.now) c.in-Some.ensures n) c.from_json.ensures.shape
