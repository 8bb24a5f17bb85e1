use Rattle.scale_info_value_borrowed.specs.BorrowedValues.{owned_value}
use Rattle.scale_info_value_borrowed.specs.ValueParts.{items_in}
use Rattle.scale_info_value_typed.proofs.TupleParts.{not_end}
use Rattle.scale_info_value_typed.proofs.members.UnitMembers.from_items.Goals as goal

pub returns-then-index-count-clause-err : goal.returns-then-index-count-clause-err
returns-then-index-count-clause-err c =
    not_end (items_in (owned_value c.args.value.now)) c.in-Some.count c.args.index c.in-Some.ensures c.if-index-count.true
