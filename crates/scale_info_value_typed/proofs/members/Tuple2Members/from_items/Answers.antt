use Rattle.std.proofs.Common.{ap, sym, ◌∙◌, ◌+◌, option_and_then, drop}
use Rattle.scale_info_value_borrowed.specs.BorrowedValues.{owned_value, value_of}
use Rattle.scale_info_value_borrowed.specs.ValueParts.{items_in}
use Rattle.scale_info_value_typed.proofs.Errors.{passed}
use Rattle.scale_info_value_typed.proofs.TupleParts.{both_are, first_is_none, others_are_none}
use Rattle.scale_info_value_typed.proofs.members.Tuple2Members.from_items.Goals as goal

pub returns-in_err-first-clause-err : goal.returns-in_err-first-clause-err
returns-in_err-first-clause-err g c =
    let meant = g.A.Shown.meant in
    passed c.from_residual.result c.in_err-first.field-0.0 c.from_residual.ensures.1 (meant (owned_value c.value.result.now)) _
    (λ none.
    first_is_none meant g.B.Members.meant (items_in (owned_value c.args.value.now)) c.args.index (value_of c.in-Some-at.item)
    c.in-Some-at.ensures (ap meant (sym c.value.ensures) ∙ none))
    c.in_err-first.ensures.err

pub returns-in_err-from_items-clause-err : goal.returns-in_err-from_items-clause-err
returns-in_err-from_items-clause-err g c =
    let found = items_in (owned_value c.args.value.now) in
    passed c.from_residual-in_err-from_items.result c.in_err-from_items.field-0.0
    c.from_residual-in_err-from_items.ensures.1
    (option_and_then (λ all. g.B.Members.meant (drop (c.args.index + 1) all)) found) _
    (λ none.
    others_are_none g.A.Shown.meant g.B.Members.meant found c.args.index (value_of c.in-Some-at.item) c.in-Some-at.ensures
    (g.A.Shown.seen c.in_ok-first.first) (ap g.A.Shown.meant (sym c.value.ensures) ∙ c.in_ok-first.ensures.ok) none)
    c.in_err-from_items.ensures.err

pub returns-clause-ok : goal.returns-clause-ok
returns-clause-ok g c =
    both_are g.A.Shown.meant g.B.Members.meant (items_in (owned_value c.args.value.now)) c.args.index (value_of c.in-Some-at.item)
    c.in-Some-at.ensures (g.A.Shown.seen c.in_ok-first.first) (g.B.Members.seen c.in_ok-from_items.field-0)
    (ap g.A.Shown.meant (sym c.value.ensures) ∙ c.in_ok-first.ensures.ok) c.in_ok-from_items.ensures.ok
