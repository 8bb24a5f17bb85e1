use Rattle.std.proofs.Common.{◌≡◌, drop}
use Rattle.scale_info_value_visit.specs.Events.{all_named, names}
use Rattle.scale_info_value_visit.proofs.visit.all_named.Given as goal

abbrev pub invariant-loop-field : goal.invariant-loop-field
invariant-loop-field l = all_named (names l.fields) ≡ all_named (names (drop l.field-index l.fields))
