use Rattle.std.proofs.Common.{◌≡◌, ◌++◌, drop}
use Rattle.scale_info_table_diff.specs.Differing.{marked_changes}
use Rattle.scale_info_table_diff.proofs.old_paths.push_marked.Given as goal

abbrev pub invariant-loop-index : goal.invariant-loop-index
invariant-loop-index l =
    l.changes.items ++ marked_changes l.new (drop l.index l.paths) (drop l.index l.marks)
    ≡ l.initial.changes.items ++ marked_changes l.new l.paths l.marks
