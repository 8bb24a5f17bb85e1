use Rattle.std.proofs.Common.{List, drop, map}
use Rattle.scale_info_types.specs.declared.ty.PortableType.{PortableType}
use Rattle.scale_info_table_diff.proofs.CommonIds.{IsCommonSoFar}
use Rattle.scale_info_table_diff.specs.Differing.{unmarked}
use Rattle.scale_info_table_diff.specs.TypesByPath.{AreIdsByPath}
use Rattle.scale_info_table_diff.proofs.old_paths.common_ids.Given as goal

abbrev pub invariant-loop-index : goal.invariant-loop-index
invariant-loop-index l =
    (types : List PortableType)
    → AreIdsByPath types l.paths (map (λ row. row.items) l.ids)
    → IsCommonSoFar types l.new (unmarked l.paths l.marks)
    (unmarked (drop l.index l.paths) (drop l.index l.marks)) l.common.items l.others.items
