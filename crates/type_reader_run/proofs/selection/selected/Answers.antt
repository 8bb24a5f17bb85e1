use Rattle.std.proofs.Common.{rules}
use Rattle.type_reader_run.proofs.Selections.{first_error, selected_more, selection_error}
use Rattle.type_reader_run.proofs.selection.selected.Goals as goal

pub returns-in_err-more-clause-err : goal.returns-in_err-more-clause-err
returns-in_err-more-clause-err c =
    let types = c.args.table.now.types in
    let texts = c.args.texts.now in
    let error = c.in_err-more.field-0.0 in
    let known =
    selection_error types texts error
    (first_error types texts c.loop-text.text-index c.text-item.result c.loop-text.ids.items error
    c.loop-text-test.true c.text-item.is c.loop-text.invariant c.in_err-more.ensures.err) in
    search rules

pub loop-text-preserved : goal.loop-text-preserved
loop-text-preserved c =
    selected_more c.args.table.now.types c.args.texts.now c.loop-text.text-index c.text-item.result
    c.loop-text.ids.items c.in_ok-more.more.items c.extend_from_slice.new.self.items
    c.loop-text-test.true c.text-item.is c.loop-text.invariant c.in_ok-more.ensures.ok
    (search rules)
