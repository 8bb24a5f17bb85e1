use Rattle.std.proofs.Common.{subst, sym}
use Rattle.std.proofs.lemmas.Result.{err_from_is_err_and}
use Rattle.scale_info_calls.proofs.Differences.{not_told, pair_refused}
use Rattle.scale_info_calls.specs.SameTypes.{IsSameRefusal}
use Rattle.scale_info_calls.proofs.same.difference.Goals as goal

pub returns-clause-err : goal.returns-clause-err
returns-clause-err c =
    subst (IsSameRefusal c.args.first.now c.args.id c.args.second.now c.args.other)
    (sym c.error_of.ensures)
    (pair_refused c.args.first.now c.args.second.now c.args.id c.args.other c.in_ok-table.table
    c.in_ok-other_table.other_table _ c.in_ok-table.ensures.ok c.in_ok-other_table.ensures.ok
    (not_told c.in_ok-table.table c.args.id c.in_ok-other_table.other_table c.args.other c.in-Err.error
    c.in-Err.ensures.cause))

pub returns-in_err-text_of-in-Ok-clause-err : goal.returns-in_err-text_of-in-Ok-clause-err
returns-in_err-text_of-in-Ok-clause-err c =
    let p =
    err_from_is_err_and c.from_residual-in_err-text_of-in-Ok.result
    c.from_residual-in_err-text_of-in-Ok.ensures.1 in
    rw (p.1, p.2) tt
