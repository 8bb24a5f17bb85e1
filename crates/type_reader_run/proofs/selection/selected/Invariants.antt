use Rattle.std.proofs.Common.{take}
use Rattle.type_reader_run.specs.Selections.{AreSelected}
use Rattle.type_reader_run.proofs.selection.selected.Given as goal

abbrev pub invariant-loop-text : goal.invariant-loop-text
invariant-loop-text l = AreSelected l.table.types (take l.text-index l.texts) l.ids.items
