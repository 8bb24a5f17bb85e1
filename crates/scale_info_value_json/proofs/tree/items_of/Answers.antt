use Rattle.std.proofs.Common.{Some, map, ap, ◌∙◌}
use Rattle.serde_json.specs.View.{view}
use Rattle.scale_info_value_json.proofs.Trees.{items_found}
use Rattle.scale_info_value_json.proofs.tree.items_of.Goals as goal

pub returns-in-Some : goal.returns-in-Some
returns-in-Some c =
    ap (λ trees. Some (map view trees)) c.as_slice.ensures.value
    ∙ items_found (view c.args.tree.now) c.in-Some.trees.now.items c.in-Some.ensures
