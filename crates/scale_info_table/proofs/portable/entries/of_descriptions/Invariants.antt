use Rattle.std.proofs.Common.{◌≡◌}
use Rattle.scale_info_table.specs.BuiltTables.{numbered_from}
use Rattle.scale_info_table.proofs.portable.entries.of_descriptions.Given as goal

abbrev pub invariant-loop-ty : goal.invariant-loop-ty
invariant-loop-ty l = l.entries ≡ numbered_from 0 l.yielded
