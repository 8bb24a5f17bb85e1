use Rattle.std.proofs.Common.{◌≡◌, ◌++◌, map, take, drop}
use Rattle.json.specs.Tree.{items_tokens}
use Rattle.serde_json.specs.View.{items_of}
use Rattle.serde_json.specs.Written.{items_outline}
use Rattle.scale_info_json_trees.specs.Meaning.{MeansEach}
use Rattle.scale_info_json_trees.specs.Written.{list_tree}
use Rattle.scale_info_json_trees.specs.Steps.{tokens_of}
use Rattle.scale_info_json_tree.proofs.list.ItemsJson.write_json.Given as goal

abbrev pub invariant-loop-value : goal.invariant-loop-value
invariant-loop-value g l = record { before : l.out.before ≡ l.fn.out.before; tokens : l.out.tokens ++ items_tokens (items_outline (items_of (map g.T.Json.written (drop l.value-index l.value-items)))) ≡ l.fn.out.tokens ++ tokens_of (list_tree g.T.Json.written l.value-items); means : MeansEach g.T.Json.meant (map g.T.Json.written (take l.value-index l.value-items)) (take l.value-index l.value-items) }
