use Rattle.type_reader_run.proofs.pruning.pruned.Goals as goal

pub returns-clause-err : goal.returns-clause-err
returns-clause-err c =
    c.error_of.ensures.pruning c.args.table.now c.args.ids.now c.in-Err.ensures.cause
