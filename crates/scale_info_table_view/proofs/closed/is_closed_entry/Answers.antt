use Rattle.std.proofs.Common.{sym, ◌∙◌}
use Rattle.std.proofs.lemmas.Bool.{false≢true}
use Rattle.scale_info_table_view.proofs.ClosedEntries.{after_id, closed_by_visit, no_id}
use Rattle.scale_info_table_view.proofs.closed.is_closed_entry.Goals as goal

pub returns-in_default : goal.returns-in_default
returns-in_default c = λ entry rest whole.
    absurd (no_id c.args.bytes.now rest entry c.in_default.ensures.none whole)

pub returns-then-id-index : goal.returns-then-id-index
returns-then-id-index c = λ entry rest whole.
    let parts = after_id c.in-Some.id c.args.bytes.now c.in-Some.description.now rest entry c.in-Some.ensures.some whole in
    (λ yes. absurd (false≢true yes), λ both. absurd (c.if-id-index.true (sym parts.0 ∙ both.0)))

pub returns-in-Some-pass : goal.returns-in-Some-pass
returns-in-Some-pass c = λ entry rest whole.
    let found = c.in-Some-pass.ensures.some in
    closed_by_visit c.args.count c.args.index c.in-Some.id c.args.bytes.now c.in-Some.description.now rest _ entry found.value _ _ c.if-id-index.false
    c.in-Some.ensures.some whole found.by.prefix found.by.are_pieces.references found.by.visited.1

pub returns-in-None : goal.returns-in-None
returns-in-None c = λ entry rest whole.
    let parts = after_id c.in-Some.id c.args.bytes.now c.in-Some.description.now rest entry c.in-Some.ensures.some whole in
    absurd (c.in-None.ensures.none.none entry.ty rest parts.1)
