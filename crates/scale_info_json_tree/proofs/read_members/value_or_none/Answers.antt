use Rattle.serde_json.specs.View.{view}
use Rattle.scale_info_json_tree.proofs.Under.{option_missing, option_found}
use Rattle.scale_info_json_tree.proofs.read_members.value_or_none.Goals as goal

pub returns-in_ok-from_json-in-Some-clause-ok : goal.returns-in_ok-from_json-in-Some-clause-ok
returns-in_ok-from_json-in-Some-clause-ok g c = option_found g.T.Json.meant c.args.key.now (view c.args.tree.now) c.in-Some.ensures c.in_ok-from_json-in-Some.ensures.ok

pub returns-in-None-clause-ok : goal.returns-in-None-clause-ok
returns-in-None-clause-ok g c = option_missing g.T.Json.meant c.args.key.now (view c.args.tree.now) c.in-None.ensures
