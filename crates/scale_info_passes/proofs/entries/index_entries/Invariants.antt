use Rattle.scale_info_passes.specs.Entries.{IsEntryIndex}
use Rattle.scale_info_passes.proofs.entries.index_entries.Given as goal

abbrev pub invariant-loop : goal.invariant-loop
invariant-loop l =
    IsEntryIndex l.counter l.input l.rest l.offsets.items l.starts.items l.references.items
