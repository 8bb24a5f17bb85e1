use Rattle.scale_info_table_view.proofs.EntriesFound.{HasPassed}
use Rattle.scale_info_table_view.proofs.offsets.find_entries.Given as goal

abbrev pub invariant-loop : goal.invariant-loop
invariant-loop l = HasPassed l.count l.counter l.input l.rest l.offsets.items
