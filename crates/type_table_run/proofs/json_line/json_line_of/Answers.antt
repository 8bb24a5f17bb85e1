use Rattle.std.proofs.Common.{rules}
use Rattle.type_table_run.proofs.json_line.json_line_of.Goals as goal

pub returns-clause-ok : goal.returns-clause-ok
returns-clause-ok c = search rules
