use Rattle.std.proofs.Common.{rules}
use Rattle.type_table_io.proofs.report.report.Goals as goal

pub returns-clause-whole : goal.returns-clause-whole
returns-clause-whole g c = search rules
