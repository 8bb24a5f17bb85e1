use Rattle.std.proofs.Common.{◌-◌, ◌*◌, drop, map}
use Rattle.serde_json.specs.View.{view}
use Rattle.scale_info_value_json.specs.DefinitionTakers.{each}
use Rattle.scale_info_value_json.specs.Takers.{in_turn}
use Rattle.scale_info_value_json.specs.Takings.{value_within, takers_within, array_fields_within}
use Rattle.scale_info_value_json.specs.Takings.{named_fields_within, pair_within}
use Rattle.scale_info_value_json.proofs.SoFar.{SoFar}
use Rattle.scale_info_value_json.proofs.take.+value.Given as goal

abbrev pub decreases-value_within : goal.decreases-value_within
decreases-value_within g l = 7 * l.left

abbrev pub decreases-value_by : goal.decreases-value_by
decreases-value_by g l = 7 * l.left - 1

abbrev pub decreases-composite_value : goal.decreases-composite_value
decreases-composite_value g l = 7 * l.left - 2

abbrev pub decreases-variant_value : goal.decreases-variant_value
decreases-variant_value g l = 7 * l.left - 2

abbrev pub decreases-tuple_value : goal.decreases-tuple_value
decreases-tuple_value g l = 7 * l.left - 2

abbrev pub decreases-map_value : goal.decreases-map_value
decreases-map_value g l = 7 * l.left - 2

abbrev pub decreases-list : goal.decreases-list
decreases-list g l = 7 * l.left - 2

abbrev pub decreases-variant_fields : goal.decreases-variant_fields
decreases-variant_fields g l = 7 * l.left - 3

abbrev pub decreases-fields : goal.decreases-fields
decreases-fields g l = 7 * l.left - 4

abbrev pub decreases-object_fields : goal.decreases-object_fields
decreases-object_fields g l = 7 * l.left - 5

abbrev pub decreases-array_fields : goal.decreases-array_fields
decreases-array_fields g l = 7 * l.left - 5

abbrev pub decreases-items : goal.decreases-items
decreases-items g l = 7 * l.left - 3

abbrev pub decreases-members : goal.decreases-members
decreases-members g l = 7 * l.left - 3

abbrev pub decreases-pairs : goal.decreases-pairs
decreases-pairs g l = 7 * l.left - 3

abbrev pub decreases-pair : goal.decreases-pair
decreases-pair g l = 7 * l.left - 4

abbrev pub invariant-items-loop-tree : goal.invariant-items-loop-tree
invariant-items-loop-tree g l =
    let take = value_within (l.left - 1) (g.T.Definitions.table l.table) l.ty.id in
    SoFar (each take (map view l.trees)) (each take (map view (drop l.tree-index l.trees))) l.values

abbrev pub invariant-pairs-loop-tree : goal.invariant-pairs-loop-tree
invariant-pairs-loop-tree g l =
    let take = pair_within l.left (g.T.Definitions.table l.table) l.key l.value in
    SoFar (each take (map view l.trees)) (each take (map view (drop l.tree-index l.trees))) l.values

abbrev pub invariant-members-loop-ty : goal.invariant-members-loop-ty
invariant-members-loop-ty g l =
    SoFar (in_turn (takers_within l.left (g.T.Definitions.table l.table) l.types) (map view l.trees))
    (in_turn (takers_within l.left (g.T.Definitions.table l.table) (drop l.ty-index l.types)) (map view l.rest)) l.values

abbrev pub invariant-array_fields-loop-field : goal.invariant-array_fields-loop-field
invariant-array_fields-loop-field g l =
    SoFar (array_fields_within l.left (g.T.Definitions.table l.table) l.all (map view l.trees))
    (array_fields_within l.left (g.T.Definitions.table l.table) (drop l.field-index l.all) (map view l.rest)) l.values

abbrev pub invariant-object_fields-loop-field : goal.invariant-object_fields-loop-field
invariant-object_fields-loop-field g l =
    SoFar (named_fields_within l.left (g.T.Definitions.table l.table) l.all (view l.tree))
    (named_fields_within l.left (g.T.Definitions.table l.table) (drop l.field-index l.all) (view l.tree)) l.values
