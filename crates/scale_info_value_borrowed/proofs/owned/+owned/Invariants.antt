use Rattle.std.proofs.Common.{◌≡◌, map, take}
use Rattle.scale_info_value_borrowed.specs.BorrowedValues.{owned_value, field_of}
use Rattle.scale_info_value_borrowed.proofs.owned.+owned.Given as goal

abbrev pub invariant-values-loop-value : goal.invariant-values-loop-value
invariant-values-loop-value l = l.copies ≡ map owned_value (take l.value-index l.all)

abbrev pub invariant-fields-loop-field : goal.invariant-fields-loop-field
invariant-fields-loop-field l = l.copies ≡ map field_of (take l.field-index l.all)
