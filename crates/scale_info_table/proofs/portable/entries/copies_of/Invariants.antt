use Rattle.std.proofs.Common.{◌≡◌, take}
use Rattle.scale_info_table.specs.BuiltTables.{numbered_from}
use Rattle.scale_info_table.proofs.portable.entries.copies_of.Given as goal

abbrev pub invariant-loop-ty : goal.invariant-loop-ty
invariant-loop-ty l = l.entries ≡ numbered_from 0 (take l.ty-index l.types)
