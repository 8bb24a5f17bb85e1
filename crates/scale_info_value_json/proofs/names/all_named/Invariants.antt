use Rattle.std.proofs.Common.{◌≡◌, drop, map}
use Rattle.scale_info_value_visit.specs.Events.{all_named}
use Rattle.scale_info_value_json.proofs.names.all_named.Given as goal

abbrev pub invariant-loop-field : goal.invariant-loop-field
invariant-loop-field g l =
    all_named (map g.N.Named.named l.fields) ≡ all_named (map g.N.Named.named (drop l.field-index l.fields))
