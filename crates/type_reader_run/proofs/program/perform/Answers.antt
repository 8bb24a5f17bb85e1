use Rattle.std.proofs.Common.{rules}
use Rattle.type_reader_run.proofs.Known.{written_in_part}
use Rattle.type_reader_run.proofs.program.perform.Goals as goal

pub returns-in_err-write_output-clause-err : goal.returns-in_err-write_output-clause-err
returns-in_err-write_output-clause-err g c = search (rules, written_in_part)
