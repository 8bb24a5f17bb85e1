use Rattle.std.proofs.Common.{◌≡◌, drop, map}
use Rattle.scale_info_value_json.specs.TreeParts.{has_name}
use Rattle.scale_info_value_json.proofs.names.has_name.Given as goal

abbrev pub invariant-loop-field : goal.invariant-loop-field
invariant-loop-field g l = has_name l.name (map g.N.Named.named l.fields) ≡ has_name l.name (map g.N.Named.named (drop l.field-index l.fields))
