use Rattle.std.proofs.Common.{◌≡◌, drop, string_bytes}
use Rattle.type_reader_run.proofs.Told.{IsSoFar}
use Rattle.type_reader_run.proofs.diff.lines_of.Given as goal

abbrev pub invariant-loop-change : goal.invariant-loop-change
invariant-loop-change l =
    (l.old ≡ l.fn.old) × (l.new ≡ l.fn.new)
    × IsSoFar l.fn.old l.fn.new l.paths l.changes (drop l.change-index l.changes) (string_bytes l.out)
