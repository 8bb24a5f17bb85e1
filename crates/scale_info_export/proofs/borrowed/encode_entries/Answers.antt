use Rattle.std.proofs.Common.{arith, get_or, length, refl, slice_get, Some, ◌≡◌}
use Rattle.std.proofs.lemmas.Option.{slice_get_read}
use Rattle.scale_info_bytes.proofs.Errors.{passed_too_long}
use Rattle.scale_info_bytes.proofs.Steps.{appends_item, no_item}
use Rattle.scale_info_export.specs.BorrowedEntries.{picked, renumbered_entries, renumbered_entry}
use Rattle.scale_info_export.proofs.BorrowedEntries.{AreWithin, length_kept, prefix_on_err, renumbered_entry_at}
use Rattle.scale_info_export.proofs.BorrowedEntries.{renumbered_more, within_by_place}
use Rattle.scale_info_grammar.specs.Ty.{EncodesPortableType}
use Rattle.scale_info_export.proofs.borrowed.encode_entries.Goals as goal
use Rattle.scale_info_export.proofs.borrowed.encode_entries.Goals.{After-index}

pub returns-in_err-encode_entry-clause-err : goal.returns-in_err-encode_entry-clause-err
returns-in_err-encode_entry-clause-err c =
    prefix_on_err c.from_residual.result c.loop-id.invariant c.in_err-encode_entry.ensures.err

-- all indices are within the descriptions
within : (c : After-index) → AreWithin c.args.order.now (length c.args.borrowed.now.descriptions.items)
within c =
    within_by_place c.args.order.now (length c.args.borrowed.now.descriptions.items) c.requires.within

-- the description is the one at the index that comes next
at_next :
    (c : After-index)
    → slice_get c.args.borrowed.now.descriptions.items (get_or c.args.order.now c.loop-id.id 0)
    ≡ Some c.index.result.now
at_next c =
    slice_get_read c.args.borrowed.now.descriptions.items (length c.args.borrowed.now.descriptions.items)
    (get_or c.args.order.now c.loop-id.id 0) c.index.result.now refl
    (c.requires.within c.loop-id.id 0 c.loop-id-test.true) c.index.ensures

pub returns-in_err-encode_entry-clause-too_long : goal.returns-in_err-encode_entry-clause-too_long
returns-in_err-encode_entry-clause-too_long c =
    let here = (goal.at.returns-in_err-encode_entry-clause-too_long c).After-index in
    let ids = c.args.ids.now.numbers.now in
    let numbers = c.args.ids.now.new.now in
    let found = c.args.borrowed.now.descriptions.items in
    let order = c.args.order.now in
    let long = length_kept ids numbers found order (within here) in
    let below = c.loop-id-test.true in
    passed_too_long c.from_residual.result c.in_err-encode_entry.field-0.0 c.from_residual.ensures.1
    (λ n.
    no_item EncodesPortableType (renumbered_entries ids numbers (picked found order)) c.loop-id.id
    (renumbered_entry ids numbers c.loop-id.id c.index.result.now.now) (omega arith)
    (renumbered_entry_at ids numbers found order c.loop-id.id c.index.result.now (within here) below
    (at_next here)) n)
    c.in_err-encode_entry.ensures.too_long

pub loop-id-preserved : goal.loop-id-preserved
loop-id-preserved c =
    let here = (goal.at.loop-id-preserved c).After-index in
    appends_item EncodesPortableType _ _ _ _ _ _
    (renumbered_more c.args.ids.now.numbers.now c.args.ids.now.new.now
    c.args.borrowed.now.descriptions.items c.args.order.now c.loop-id.id c.index.result.now
    (within here) c.loop-id-test.true (at_next here))
    c.loop-id.invariant c.in_ok-encode_entry.ensures.ok
