use Rattle.std.proofs.Common.{◌≡◌, ◌++◌, drop}
use Rattle.std.specs.List.{flat_map}
use Rattle.scale_info_table_diff.specs.TableChanges.{new_change}
use Rattle.scale_info_table_diff.proofs.tables.push_added.Given as goal

abbrev pub invariant-loop-path : goal.invariant-loop-path
invariant-loop-path l =
    l.changes.items ++ flat_map (new_change l.old) (drop l.path-index l.paths)
    ≡ l.initial.changes.items ++ flat_map (new_change l.old) l.paths
