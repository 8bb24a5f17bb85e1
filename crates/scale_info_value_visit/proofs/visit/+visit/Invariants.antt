use Rattle.std.proofs.Common.{◌-◌, drop, replicate, Some}
use Rattle.scale_info_value_visit.specs.Events.{pair_of}
use Rattle.scale_info_value_visit.specs.Reads.{value_read, members_read, fields_read, each}
use Rattle.scale_info_value_visit.proofs.Visiting.{IsAt, visits_left}
use Rattle.scale_info_value_visit.proofs.visit.+visit.Given as goal

abbrev pub decreases-value_within : goal.decreases-value_within
decreases-value_within g l = visits_left 2 l.left

abbrev pub decreases-value_by : goal.decreases-value_by
decreases-value_by g l = visits_left 3 l.left

abbrev pub decreases-record : goal.decreases-record
decreases-record g l = visits_left 5 l.left

abbrev pub decreases-variant : goal.decreases-variant
decreases-variant g l = visits_left 4 l.left

abbrev pub decreases-chosen : goal.decreases-chosen
decreases-chosen g l = visits_left 5 l.left

abbrev pub decreases-fields : goal.decreases-fields
decreases-fields g l = visits_left 6 l.left

abbrev pub decreases-field : goal.decreases-field
decreases-field g l = visits_left 7 l.left

abbrev pub decreases-list : goal.decreases-list
decreases-list g l = visits_left 4 l.left

abbrev pub decreases-list_by : goal.decreases-list_by
decreases-list_by g l = visits_left 0 l.left

abbrev pub decreases-list_of_items : goal.decreases-list_of_items
decreases-list_of_items g l = visits_left 1 l.left

abbrev pub decreases-items : goal.decreases-items
decreases-items g l = visits_left 2 l.left

abbrev pub decreases-members : goal.decreases-members
decreases-members g l = visits_left 4 l.left

abbrev pub decreases-each_member : goal.decreases-each_member
decreases-each_member g l = visits_left 5 l.left

abbrev pub decreases-pairs : goal.decreases-pairs
decreases-pairs g l = visits_left 4 l.left

abbrev pub decreases-each_pair : goal.decreases-each_pair
decreases-each_pair g l = visits_left 5 l.left

abbrev pub decreases-pair : goal.decreases-pair
decreases-pair g l = visits_left 6 l.left

abbrev pub decreases-key_and_value : goal.decreases-key_and_value
decreases-key_and_value g l = visits_left 7 l.left

abbrev pub invariant-items-loop : goal.invariant-items-loop
invariant-items-loop g l =
    let read = value_read l.left (g.T.Definitions.table l.table) (Some l.definition) in
    IsAt g.V.ValueVisitor.visited (each (replicate l.count read) l.input) (each (replicate (l.count - l.counter) read) l.rest)
    l.fn.visitor l.visitor

abbrev pub invariant-each_member-loop-ty : goal.invariant-each_member-loop-ty
invariant-each_member-loop-ty g l =
    let table = g.T.Definitions.table l.table in
    let part = value_read (l.left - 1) table in
    IsAt g.V.ValueVisitor.visited (members_read table part l.types l.input)
    (members_read table part (drop l.ty-index l.types) l.rest) l.fn.visitor l.visitor

abbrev pub invariant-fields-loop-next : goal.invariant-fields-loop-next
invariant-fields-loop-next g l =
    let table = g.T.Definitions.table l.table in
    let part = value_read (l.left - 1) table in
    IsAt g.V.ValueVisitor.visited (fields_read table part l.named l.all l.input)
    (fields_read table part l.named (drop l.next-index l.all) l.rest) l.fn.visitor l.visitor

abbrev pub invariant-each_pair-loop : goal.invariant-each_pair-loop
invariant-each_pair-loop g l =
    let read = value_read (l.left - 1) (g.T.Definitions.table l.table) (Some (pair_of l.key l.value)) in
    IsAt g.V.ValueVisitor.visited (each (replicate l.count read) l.input) (each (replicate (l.count - l.counter) read) l.rest)
    l.fn.visitor l.visitor
