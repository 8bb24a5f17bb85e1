use Rattle.scale_info_value.proofs.list.primitives.Goals as goal

pub returns-in-Bool-clause-err : goal.returns-in-Bool-clause-err
returns-in-Bool-clause-err c = rw c.in-Bool.is c.truths.ensures.err
