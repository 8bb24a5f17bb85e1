use Rattle.std.proofs.Common.{rules}
use Rattle.type_table_io.proofs.command.command_of.Goals as goal

pub returns-then-is_alone-2-clause-some : goal.returns-then-is_alone-2-clause-some
returns-then-is_alone-2-clause-some c = search rules
