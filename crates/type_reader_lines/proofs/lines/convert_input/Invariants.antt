use Rattle.std.proofs.Common.{[]}
use Rattle.type_reader_io.specs.Inputs.{IsWithoutFeed}
use Rattle.type_reader_io.specs.Reports.{ReportsEach}
use Rattle.type_reader_lines.specs.Steps.{HasConvertedRead}
use Rattle.type_reader_lines.proofs.lines.convert_input.Given as goal

abbrev pub invariant-loop : goal.invariant-loop
invariant-loop g l =
    IsWithoutFeed l.line.items
    × HasConvertedRead l.converter (g.S.Read.remaining l.fn.second) (g.S.Read.remaining l.second) []
    l.line.items l.fn.progress l.progress (g.W.Write.contents l.fn.output)
    (g.W.Write.contents l.output) (ReportsEach g.T.Reporter.reported l.fn.reporter l.reporter)
