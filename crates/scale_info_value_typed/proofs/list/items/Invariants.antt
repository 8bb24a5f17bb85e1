use Rattle.std.proofs.Common.{◌≡◌, List, Some, map, length}
use Rattle.scale_info_value.specs.declared.value.Value.{Value}
use Rattle.scale_info_value_borrowed.specs.BorrowedValues.{owned_value}
use Rattle.scale_info_value_borrowed.specs.ValueParts.{items_in}
use Rattle.scale_info_value_typed.proofs.AllOf.{SoFar}
use Rattle.scale_info_value_typed.proofs.list.items.Given as goal

-- what the items before the index are
abbrev pub invariant-loop-index : goal.invariant-loop-index
invariant-loop-index g l =
    (values : List Value) × (items_in (owned_value l.value) ≡ Some values) × (l.count ≡ length values)
    × SoFar (map g.T.Shown.meant values) l.index (map g.T.Shown.seen l.all)
