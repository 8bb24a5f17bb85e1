use Rattle.std.proofs.Common.{rules}
use Rattle.type_reader_io.proofs.reporter.ErrorWriterReporter.report.Goals as goal

pub returns : goal.returns
returns g c = search rules
