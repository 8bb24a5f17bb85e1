use Rattle.scale_info_table_view.proofs.ClosedEntries.{all_closed, one_closed, one_open}
use Rattle.scale_info_table_view.proofs.closed.are_closed_entries.Goals as goal

pub returns-then-not-is_closed_entry : goal.returns-then-not-is_closed_entry
returns-then-not-is_closed_entry c = λ types at.
    one_open c.args.bytes.now c.args.offsets.now c.loop-index.index c.is_closed_entry.result types c.loop-index-test.true
    c.is_closed_entry.ensures c.if-not-is_closed_entry.true at

pub loop-index-preserved : goal.loop-index-preserved
loop-index-preserved c =
    one_closed c.args.bytes.now c.args.offsets.now c.loop-index.index c.is_closed_entry.result c.loop-index-test.true
    c.is_closed_entry.ensures c.if-not-is_closed_entry.false c.loop-index.invariant

pub returns : goal.returns
returns c = λ types at.
    all_closed c.args.bytes.now c.args.offsets.now c.loop-index.index types c.loop-index-test.false c.loop-index.invariant at
