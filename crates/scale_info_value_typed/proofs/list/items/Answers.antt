use Rattle.std.proofs.Common.{ap, sym, ◌∙◌, map}
use Rattle.scale_info_value_borrowed.specs.BorrowedValues.{owned_value, value_of}
use Rattle.scale_info_value_typed.specs.Meanings.{list}
use Rattle.scale_info_value_typed.proofs.Errors.{passed}
use Rattle.scale_info_value_typed.proofs.Items.{item_is, next_item, no_item}
use Rattle.scale_info_value_typed.proofs.list.items.Goals as goal

pub returns-in_err-from_value-clause-err : goal.returns-in_err-from_value-clause-err
returns-in_err-from_value-clause-err g c =
    let (items, is, count, far) = c.loop-index.invariant in
    let meant = g.T.Shown.meant in
    let item = value_of c.in-Some-at.item in
    passed c.from_residual.result c.in_err-from_value.field-0.0 c.from_residual.ensures.1
    (meant (owned_value c.value.result.now)) (list meant (owned_value c.args.value.now))
    (λ none.
    no_item meant (owned_value c.args.value.now) items c.loop-index.index item (map g.T.Shown.seen c.loop-index.all) is
    (item_is (owned_value c.args.value.now) item items c.loop-index.index is c.in-Some-at.ensures) far
    (ap meant (sym c.value.ensures) ∙ none))
    c.in_err-from_value.ensures.err

pub loop-index-preserved : goal.loop-index-preserved
loop-index-preserved g c =
    let (items, is, count, far) = c.loop-index.invariant in
    let meant = g.T.Shown.meant in
    let item = value_of c.in-Some-at.item in (
      items,
      is,
      count,
      next_item meant g.T.Shown.seen items c.loop-index.index item c.loop-index.all c.push_towards.new.self
          c.in_ok-from_value.field-0 c.in_ok-push_towards.ensures.list
          (item_is (owned_value c.args.value.now) item items c.loop-index.index is c.in-Some-at.ensures)
          (ap meant (sym c.value.ensures) ∙ c.in_ok-from_value.ensures.ok) far,
    )
