use Rattle.std.proofs.Common.{◌-◌, drop, length, map, replicate}
use Rattle.scale_info_value.proofs.Ranks.{calls_left}
use Rattle.scale_info_value_encode.specs.Writers.{item, in_turn}
use Rattle.scale_info_value_encode.specs.DefinitionWriters.{members, pairs}
use Rattle.scale_info_value_encode.specs.Writings.{definition_within, part_within, fields_within, pair_within}
use Rattle.scale_info_value_encode.proofs.InTurn.{members_from, fields_from}
use Rattle.scale_info_value_encode.proofs.SoFar.{SoFar}
use Rattle.scale_info_value_encode.proofs.encode.+value.Given as goal

abbrev pub decreases-value_within : goal.decreases-value_within
decreases-value_within g l = calls_left 5 0 l.left

abbrev pub decreases-value_by : goal.decreases-value_by
decreases-value_by g l = calls_left 5 1 l.left

abbrev pub decreases-composite_value : goal.decreases-composite_value
decreases-composite_value g l = calls_left 5 2 l.left

abbrev pub decreases-sequence_value : goal.decreases-sequence_value
decreases-sequence_value g l = calls_left 5 2 l.left

abbrev pub decreases-array_value : goal.decreases-array_value
decreases-array_value g l = calls_left 5 2 l.left

abbrev pub decreases-tuple_value : goal.decreases-tuple_value
decreases-tuple_value g l = calls_left 5 2 l.left

abbrev pub decreases-map_value : goal.decreases-map_value
decreases-map_value g l = calls_left 5 2 l.left

abbrev pub decreases-variant_value : goal.decreases-variant_value
decreases-variant_value g l = calls_left 5 2 l.left

abbrev pub decreases-items : goal.decreases-items
decreases-items g l = calls_left 5 3 l.left

abbrev pub decreases-items_by : goal.decreases-items_by
decreases-items_by g l = calls_left 5 0 l.left

abbrev pub decreases-members : goal.decreases-members
decreases-members g l = calls_left 5 3 l.left

abbrev pub decreases-fields : goal.decreases-fields
decreases-fields g l = calls_left 5 3 l.left

abbrev pub decreases-pairs : goal.decreases-pairs
decreases-pairs g l = calls_left 5 3 l.left

abbrev pub decreases-pair : goal.decreases-pair
decreases-pair g l = calls_left 5 4 l.left

abbrev pub invariant-items_by-loop-place : goal.invariant-items_by-loop-place
invariant-items_by-loop-place g l =
    let write = item (definition_within l.left (g.T.Definitions.table l.table) l.definition) in
    SoFar (in_turn 0 (replicate l.count write) l.values) (in_turn l.place (replicate (l.count - l.place) write) l.rest)
    l.fn.out.items l.out.items

abbrev pub invariant-members-loop-place : goal.invariant-members-loop-place
invariant-members-loop-place g l =
    SoFar (members (map (part_within l.left (g.T.Definitions.table l.table)) l.types) l.values)
    (members_from l.place l.left (g.T.Definitions.table l.table) (drop l.place l.types) l.rest) l.fn.out.items l.out.items

abbrev pub invariant-fields-loop-place : goal.invariant-fields-loop-place
invariant-fields-loop-place g l =
    SoFar (fields_within l.left (g.T.Definitions.table l.table) l.all l.values)
    (fields_from l.place l.left (g.T.Definitions.table l.table) (drop l.place l.all) l.rest) l.fn.out.items l.out.items

abbrev pub invariant-pairs-loop-place : goal.invariant-pairs-loop-place
invariant-pairs-loop-place g l =
    let write = item (pair_within l.left (g.T.Definitions.table l.table) l.key l.value) in
    SoFar (pairs (length l.entries) (part_within l.left (g.T.Definitions.table l.table) l.key) (part_within l.left
    (g.T.Definitions.table l.table) l.value) l.entries)
    (in_turn l.place (replicate (length (drop l.place l.entries)) write) (drop l.place l.entries))
    l.fn.out.items l.out.items
