use Rattle.std.proofs.Common.{length}
use Rattle.scale_info_export.specs.BorrowedEntries.{picked, renumbered_entries}
use Rattle.scale_info_export.proofs.BorrowedEntries.{appends_table, length_kept, within_by_place}
use Rattle.scale_info_export.proofs.borrowed.encode_kept.Goals as goal

pub returns-clause-ok : goal.returns-clause-ok
returns-clause-ok c =
    let ids = c.args.borrowed.now.numbers in
    let found = c.args.borrowed.now.descriptions.items in
    let order = c.args.order.now in
    let numbers = c.args.numbers.now in
    let written = c.encode_entries-written in
    appends_table (renumbered_entries ids numbers (picked found order)) _ _ _ _ _ c.truncate_on_err.result written.result
    (length_kept ids numbers found order (within_by_place order (length found) c.requires.within))
    c.in_ok-encode_compact.ensures.ok written.ensures.ok c.truncate_on_err.ensures.same c.truncate_on_err.ensures.ok
