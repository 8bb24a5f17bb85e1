use Rattle.std.proofs.Common.{map, take}
use Rattle.serde_json.specs.View.{view}
use Rattle.scale_info_json_trees.specs.Meaning.{MeansEach}
use Rattle.scale_info_json_tree.proofs.list.ItemsJson.from_json.Given as goal

abbrev pub invariant-loop-tree : goal.invariant-loop-tree
invariant-loop-tree g l = MeansEach g.T.Json.meant (map view (take l.tree-index l.tree-items)) l.values
