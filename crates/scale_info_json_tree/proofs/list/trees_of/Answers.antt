use Rattle.scale_info_json_tree.proofs.Lists.{pushed, each_next, all_taken}
use Rattle.scale_info_json_tree.proofs.list.trees_of.Goals as goal

pub loop-value-preserved : goal.loop-value-preserved
loop-value-preserved g c =
    let values = c.args.values.now in
    let i = c.loop-value.value-index in
    let value = c.value-item.result in
    record {
      trees = pushed g.T.Json.written values i value _ _ c.loop-value-test.true c.value-item.is c.loop-value.invariant.trees c.in_ok-push_tree.ensures.ok;
      means = each_next g.T.Json.meant g.T.Json.written values i value c.loop-value-test.true c.value-item.is c.loop-value.invariant.means c.in_ok-push_tree.ensures.means;
    }

pub returns-clause-ok : goal.returns-clause-ok
returns-clause-ok g c = all_taken g.T.Json.written c.args.values.now _ _ c.loop-value-test.false c.loop-value.invariant.trees
