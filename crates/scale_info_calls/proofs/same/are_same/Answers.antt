use Rattle.std.proofs.Common.{subst, sym}
use Rattle.scale_info_calls.proofs.Differences.{not_matched, pair_refused}
use Rattle.scale_info_calls.specs.SameTypes.{IsSameRefusal}
use Rattle.scale_info_calls.proofs.same.are_same.Goals as goal

pub returns-clause-err : goal.returns-clause-err
returns-clause-err c =
    subst (IsSameRefusal c.args.first.now c.args.id c.args.second.now c.args.other)
    (sym c.error_of.ensures)
    (pair_refused c.args.first.now c.args.second.now c.args.id c.args.other c.in_ok-table.table
    c.in_ok-other_table.other_table _ c.in_ok-table.ensures.ok c.in_ok-other_table.ensures.ok
    (not_matched c.in_ok-table.table c.args.id c.in_ok-other_table.other_table c.args.other c.in-Err.error
    c.in-Err.ensures.cause))
