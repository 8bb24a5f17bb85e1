use Rattle.std.proofs.Common.{◌≡◌, map, take}
use Rattle.serde_json.specs.View.{view}
use Rattle.scale_info_json_trees.specs.Meaning.{MeansEach}
use Rattle.scale_info_json_tree.proofs.list.trees_of.Given as goal

abbrev pub invariant-loop-value : goal.invariant-loop-value
invariant-loop-value g l = record { trees : map view l.trees.items ≡ map g.T.Json.written (take l.value-index l.values); means : MeansEach g.T.Json.meant (map g.T.Json.written (take l.value-index l.values)) (take l.value-index l.values) }
