use Rattle.std.proofs.Common.{◌∙◌}
use Rattle.scale_info_json_tree.proofs.Lists.{next_tokens, each_next}
use Rattle.scale_info_json_tree.proofs.list.ItemsJson.write_json.Goals as goal

pub loop-value-preserved : goal.loop-value-preserved
loop-value-preserved g c =
    let values = c.as_slice-value-items.result.now in
    let i = c.loop-value.value-index in
    let value = c.value-item.result in
    record {
      before = c.in_ok-write_json.ensures.before ∙ c.loop-value.invariant.before;
      tokens = next_tokens g.T.Json.written values i value _ _ _ c.loop-value-test.true c.value-item.is c.loop-value.invariant.tokens c.in_ok-write_json.ensures.ok;
      means = each_next g.T.Json.meant g.T.Json.written values i value c.loop-value-test.true c.value-item.is c.loop-value.invariant.means c.in_ok-write_json.ensures.means;
    }
