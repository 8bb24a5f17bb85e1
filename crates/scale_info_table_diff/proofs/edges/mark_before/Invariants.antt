use Rattle.scale_info_table_diff.specs.Differing.{StayDiffering}
use Rattle.scale_info_table_diff.proofs.edges.mark_before.Given as goal

abbrev pub invariant-loop : goal.invariant-loop
invariant-loop l = StayDiffering l.edges l.initial.marks.items l.marks.items
