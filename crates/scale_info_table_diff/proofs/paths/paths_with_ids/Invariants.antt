use Rattle.std.proofs.Common.{drop, map}
use Rattle.scale_info_table_diff.proofs.AddedIds.{IsSoFar}
use Rattle.scale_info_table_diff.proofs.paths.paths_with_ids.Given as goal

abbrev pub invariant-loop-index : goal.invariant-loop-index
invariant-loop-index l =
    IsSoFar l.types l.index (drop l.index l.types) l.paths (map (λ row. row.items) l.ids.items)
