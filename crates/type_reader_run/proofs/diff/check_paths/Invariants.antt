use Rattle.std.proofs.Common.{take}
use Rattle.std.specs.List.{All}
use Rattle.type_reader_run.specs.Differences.{IsInEither}
use Rattle.type_reader_run.proofs.diff.check_paths.Given as goal

abbrev pub invariant-loop-path : goal.invariant-loop-path
invariant-loop-path l = All (IsInEither l.old l.new) (take l.path-index l.paths)
