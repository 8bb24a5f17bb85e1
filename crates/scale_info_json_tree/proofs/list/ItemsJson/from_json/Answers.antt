use Rattle.scale_info_json_tree.proofs.Errors.{passed_shape}
use Rattle.scale_info_json_tree.proofs.Lists.{no_list, array_of, read_more}
use Rattle.scale_info_json_tree.proofs.list.ItemsJson.from_json.Goals as goal

pub returns-in_err-from_json-in-Some-clause-shape : goal.returns-in_err-from_json-in-Some-clause-shape
returns-in_err-from_json-in-Some-clause-shape g c =
    passed_shape c.from_residual-in_err-from_json-in-Some.result c.in_err-from_json-in-Some.field-0.0 c.from_residual-in_err-from_json-in-Some.ensures.1
    (λ n. no_list g.T.Json.meant _ c.in-Some.trees.now.items c.deref-tree-items.result.now c.loop-tree.tree-index c.tree-item.result (array_of _ _ c.in-Some.ensures) c.deref-tree-items.ensures.value c.loop-tree-test.true c.tree-item.is n)
    c.in_err-from_json-in-Some.ensures.shape

pub loop-tree-preserved : goal.loop-tree-preserved
loop-tree-preserved g c = read_more g.T.Json.meant c.deref-tree-items.result.now c.loop-tree.tree-index c.tree-item.result _ _ _ c.loop-tree-test.true c.tree-item.is c.loop-tree.invariant c.in_ok-from_json-in-Some.ensures.ok c.in_ok-push-in-Some.ensures.list
