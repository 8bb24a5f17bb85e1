use Rattle.serde_json.specs.View.{view}
use Rattle.scale_info_json_tree.proofs.Numbers.{unsigned_of}
use Rattle.scale_info_json_tree.proofs.number.number_below.Goals as goal

pub returns-in-Some-clause-ok : goal.returns-in-Some-clause-ok
returns-in-Some-clause-ok c = record {
  fits = c.if-number-limit.true;
  is = unsigned_of (view c.args.tree.now) c.in-Some.number c.in-Some.ensures;
}
