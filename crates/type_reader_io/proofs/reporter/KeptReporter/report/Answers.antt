use Rattle.std.proofs.Common.{rules}
use Rattle.type_reader_io.proofs.reporter.KeptReporter.report.Goals as goal

pub returns : goal.returns
returns c = search rules
