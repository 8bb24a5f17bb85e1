use Rattle.type_reader_run.proofs.diff.changes_between.Goals as goal

pub returns-in-Err-clause-err : goal.returns-in-Err-clause-err
returns-in-Err-clause-err c =
    c.error_of.ensures.comparing c.args.old.now c.args.new.now c.in-Err.ensures.cause
