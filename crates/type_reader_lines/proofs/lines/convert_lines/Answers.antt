use Rattle.std.proofs.Common.{refl}
use Rattle.std.proofs.lemmas.Result.{err_from_is_err_and}
use Rattle.type_reader_lines.proofs.Steps.{all_but_written, all_lines, stopped_by_write}
use Rattle.type_reader_lines.proofs.Steps.{stopped_then_failed}
use Rattle.type_reader_lines.proofs.lines.convert_lines.Goals as goal

pub returns-in_err-write_beyond-in-Ok-clause-err :
    goal.returns-in_err-write_beyond-in-Ok-clause-err
returns-in_err-write_beyond-in-Ok-clause-err g c =
    let p = err_from_is_err_and c.from_residual.result c.from_residual.ensures.1 in
    rw (p.1, p.2)
    (all_but_written c.new-progress.ensures c.in-Ok.ensures.ok
    c.in_err-write_beyond-in-Ok.ensures.err c.in_err-write_beyond-in-Ok.ensures.error)

pub returns-in-Ok-clause-ok : goal.returns-in-Ok-clause-ok
returns-in-Ok-clause-ok g c =
    all_lines c.new-progress.ensures c.in-Ok.ensures.ok c.in_ok-write_beyond-in-Ok.ensures.ok
    (c.in_ok-write_beyond-in-Ok.ensures.all refl)

pub returns-in_err-write_beyond-in_default-clause-err :
    goal.returns-in_err-write_beyond-in_default-clause-err
returns-in_err-write_beyond-in_default-clause-err g c =
    let p =
    err_from_is_err_and c.from_residual-in_err-write_beyond-in_default.result
    c.from_residual-in_err-write_beyond-in_default.ensures.1 in
    rw (p.1, p.2)
    (stopped_then_failed c.new-progress.ensures c.in_default.not-Output c.in-Err.ensures.err
    c.in_err-write_beyond-in_default.ensures.err
    c.in_err-write_beyond-in_default.ensures.error)

pub returns-in-Output-clause-err : goal.returns-in-Output-clause-err
returns-in-Output-clause-err g c = stopped_by_write c.new-progress.ensures c.in-Err.ensures.err
