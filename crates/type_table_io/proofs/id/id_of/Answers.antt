use Rattle.std.proofs.Common.{rules}
use Rattle.type_table_io.proofs.id.id_of.Goals as goal

pub returns-clause-some : goal.returns-clause-some
returns-clause-some c = search rules
