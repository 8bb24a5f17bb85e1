use Rattle.std.proofs.Common.{ap, sym, ◌∙◌}
use Rattle.example_callers.proofs.Resolved.{items_resolve, found_is_entry, some_is_returned}
use Rattle.example_callers.proofs.facts.type_of_items.Goals as goal

pub returns-in-Sequence : goal.returns-in-Sequence
returns-in-Sequence c = λ closed entry sequence at is_sequence.
    let same = found_is_entry c.args.table.now.types c.args.index entry c.resolve.result c.in_ok-def.field-0 c.resolve.ensures c.in_ok-def.was at in
    let is_this = ap (λ ty. ty.type_def) (sym same) ∙ c.in-Sequence.is in
    some_is_returned (λ e. e.ty) _ _ c.resolve-in-Sequence.ensures
    (items_resolve c.args.table.now c.args.index entry c.in-Sequence.def closed at is_this)
