use Rattle.std.proofs.Common.{◌≡◌, drop}
use Rattle.scale_info_table_describe.specs.TypeNames.{has_name}
use Rattle.scale_info_table_describe.proofs.fields.has_name.Given as goal

abbrev pub invariant-loop-field : goal.invariant-loop-field
invariant-loop-field l = has_name l.fields ≡ has_name (drop l.field-index l.fields)
