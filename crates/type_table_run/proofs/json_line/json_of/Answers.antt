use Rattle.std.proofs.Common.{rules}
use Rattle.type_table_run.proofs.Rests.{is_empty, whole_json}
use Rattle.type_table_run.proofs.json_line.json_of.Goals as goal

pub returns-else-not-is_empty-clause-ok : goal.returns-else-not-is_empty-clause-ok
returns-else-not-is_empty-clause-ok c =
    whole_json _ c.in-Ok.rest.now _ (is_empty c.in-Ok.rest.now c.if-not-is_empty.ensures)
    c.in-Ok.ensures.ok

pub returns-in-Err-Malformed-clause-err : goal.returns-in-Err-Malformed-clause-err
returns-in-Err-Malformed-clause-err c = search rules
