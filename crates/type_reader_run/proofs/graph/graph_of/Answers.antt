use Rattle.type_reader_run.proofs.graph.graph_of.Goals as goal

pub returns-in-Err-clause-err : goal.returns-in-Err-clause-err
returns-in-Err-clause-err c =
    c.error_of.ensures c.args.table.now c.args.ids.now c.in-Err.ensures.cause
