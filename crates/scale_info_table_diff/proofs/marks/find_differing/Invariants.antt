use Rattle.std.proofs.Common.{All}
use Rattle.scale_info_table_diff.specs.Differing.{AreDiffering, IsEdge}
use Rattle.scale_info_table_diff.proofs.marks.find_differing.Given as goal

abbrev pub invariant-loop : goal.invariant-loop
invariant-loop l =
    AreDiffering l.old.table.now l.new.table.now l.pairs.items.items l.marks.items
    × All (IsEdge l.old.table.now l.new.table.now l.pairs.items.items) l.edges.items
