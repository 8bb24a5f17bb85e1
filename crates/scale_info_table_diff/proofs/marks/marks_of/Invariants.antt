use Rattle.std.proofs.Common.{◌≡◌, List, length, map, take}
use Rattle.scale_info_table_diff.specs.Differing.{AreDiffering, AreMarks}
use Rattle.scale_info_table_diff.specs.TypesByPath.{AreIdsByPath}
use Rattle.scale_info_types.specs.declared.ty.PortableType.{PortableType}
use Rattle.scale_info_table_diff.proofs.marks.marks_of.Given as goal

abbrev pub invariant-loop-index : goal.invariant-loop-index
invariant-loop-index l =
    (length l.marks.items ≡ l.index)
    × ((types : List PortableType)
    → AreDiffering types l.new l.found.pairs.items.items l.found.marks.items
    → AreIdsByPath types l.paths (map (λ row. row.items) l.ids)
    → AreMarks types l.new (take l.index l.paths) l.marks.items)
