use Rattle.std.proofs.Common.{◌≡◌, map, drop}
use Rattle.scale_info_value_borrowed.specs.BorrowedValues.{field_of}
use Rattle.scale_info_value_borrowed.specs.ValueParts.{value_under}
use Rattle.scale_info_value_borrowed.proofs.borrowed.first_named.Given as goal

abbrev pub invariant-loop-field : goal.invariant-loop-field
invariant-loop-field l =
    value_under l.name (map field_of l.fields) ≡ value_under l.name (map field_of (drop l.field-index l.fields))
