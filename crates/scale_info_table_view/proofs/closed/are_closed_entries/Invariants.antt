use Rattle.scale_info_table_view.proofs.ClosedEntries.{AreClosedBelow}
use Rattle.scale_info_table_view.proofs.closed.are_closed_entries.Given as goal

abbrev pub invariant-loop-index : goal.invariant-loop-index
invariant-loop-index l = AreClosedBelow l.bytes l.offsets l.index
