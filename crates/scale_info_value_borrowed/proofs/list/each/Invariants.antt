use Rattle.std.proofs.Common.{map}
use Rattle.scale_info_value.specs.ValueDefinitions.{primitive}
use Rattle.scale_info_value.proofs.InOrder.{Done}
use Rattle.scale_info_value_borrowed.specs.BorrowedValues.{owned_value}
use Rattle.scale_info_value_borrowed.proofs.list.each.Given as goal

abbrev pub invariant-loop : goal.invariant-loop
invariant-loop l = Done l.count (primitive l.kind) l.input l.counter (map owned_value l.values) l.rest
