-- The ids of the texts so far.
use Rattle.std.proofs.Common.{◌≡◌, map, take}
use Rattle.type_table_io.specs.Ids.{id_in}
use Rattle.type_table_io.proofs.id.ids_of.Given as goal

abbrev pub invariant-loop-text : goal.invariant-loop-text
invariant-loop-text l = l.ids.items ≡ map id_in (take l.text-index l.texts)
