use Rattle.std.proofs.Common.{◌≡◌, drop, map}
use Rattle.scale_info_value.specs.Readings.{definition_within, members_within, fields_within}
use Rattle.scale_info_value.specs.Readings.{pair_within}
use Rattle.scale_info_value.proofs.InOrder.{preceded, Done}
use Rattle.scale_info_value.proofs.Ranks.{calls_left}
use Rattle.scale_info_value_borrowed.specs.BorrowedValues.{owned_value, field_of}
use Rattle.scale_info_value_borrowed.proofs.decode.+value.Given as goal

abbrev pub decreases-value_within : goal.decreases-value_within
decreases-value_within g l = calls_left 6 1 l.left

abbrev pub decreases-value_by : goal.decreases-value_by
decreases-value_by g l = calls_left 6 2 l.left

abbrev pub decreases-composite_value : goal.decreases-composite_value
decreases-composite_value g l = calls_left 6 3 l.left

abbrev pub decreases-sequence_value : goal.decreases-sequence_value
decreases-sequence_value g l = calls_left 6 3 l.left

abbrev pub decreases-array_value : goal.decreases-array_value
decreases-array_value g l = calls_left 6 3 l.left

abbrev pub decreases-tuple_value : goal.decreases-tuple_value
decreases-tuple_value g l = calls_left 6 3 l.left

abbrev pub decreases-map_value : goal.decreases-map_value
decreases-map_value g l = calls_left 6 3 l.left

abbrev pub decreases-variant_value : goal.decreases-variant_value
decreases-variant_value g l = calls_left 6 3 l.left

abbrev pub decreases-list : goal.decreases-list
decreases-list g l = calls_left 6 4 l.left

abbrev pub decreases-list_by : goal.decreases-list_by
decreases-list_by g l = calls_left 6 0 l.left

abbrev pub decreases-items : goal.decreases-items
decreases-items g l = calls_left 6 1 l.left

abbrev pub decreases-members : goal.decreases-members
decreases-members g l = calls_left 6 4 l.left

abbrev pub decreases-fields : goal.decreases-fields
decreases-fields g l = calls_left 6 4 l.left

abbrev pub decreases-pairs : goal.decreases-pairs
decreases-pairs g l = calls_left 6 4 l.left

abbrev pub decreases-pair : goal.decreases-pair
decreases-pair g l = calls_left 6 5 l.left

abbrev pub invariant-items-loop : goal.invariant-items-loop
invariant-items-loop g l =
    Done l.count (definition_within l.left (g.T.Definitions.table l.table) l.definition) l.input l.counter (map owned_value l.values) l.rest

abbrev pub invariant-members-loop-ty : goal.invariant-members-loop-ty
invariant-members-loop-ty g l =
    members_within l.left (g.T.Definitions.table l.table) l.types l.input
    ≡ preceded (map owned_value l.values) (members_within l.left (g.T.Definitions.table l.table) (drop l.ty-index l.types) l.rest)

abbrev pub invariant-fields-loop-field : goal.invariant-fields-loop-field
invariant-fields-loop-field g l =
    fields_within l.left (g.T.Definitions.table l.table) l.all l.input
    ≡ preceded (map field_of l.values) (fields_within l.left (g.T.Definitions.table l.table) (drop l.field-index l.all) l.rest)

abbrev pub invariant-pairs-loop : goal.invariant-pairs-loop
invariant-pairs-loop g l =
    Done l.count (pair_within l.left (g.T.Definitions.table l.table) l.key l.value) l.input l.counter (map owned_value l.values) l.rest
