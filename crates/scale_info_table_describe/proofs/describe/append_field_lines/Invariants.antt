use Rattle.std.proofs.Common.{◌≡◌, ◌++◌, drop, string_bytes}
use Rattle.std.specs.List.{flat_map}
use Rattle.scale_info_table_describe.specs.TypeNames.{name_within}
use Rattle.scale_info_table_describe.specs.TypeDeclarations.{field_line}
use Rattle.scale_info_table_describe.proofs.describe.append_field_lines.Given as goal

abbrev pub invariant-loop-field : goal.invariant-loop-field
invariant-loop-field g l =
    string_bytes l.out ++ flat_map (field_line (name_within 8 (g.T.Definitions.table l.table)) l.inner) (drop l.field-index l.fields)
    ≡ string_bytes l.initial.out ++ flat_map (field_line (name_within 8 (g.T.Definitions.table l.table)) l.inner) l.fields
