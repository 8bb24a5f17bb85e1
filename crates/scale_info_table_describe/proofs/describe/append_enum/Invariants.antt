use Rattle.std.proofs.Common.{◌≡◌, ◌++◌, drop, string_bytes}
use Rattle.std.specs.List.{flat_map}
use Rattle.scale_info_table_describe.specs.TypeNames.{name_within}
use Rattle.scale_info_table_describe.specs.TypeDeclarations.{variant_line}
use Rattle.scale_info_table_describe.proofs.describe.append_enum.Given as goal

abbrev pub invariant-loop-variant : goal.invariant-loop-variant
invariant-loop-variant g l =
    string_bytes l.out ++ flat_map (variant_line (name_within 8 (g.T.Definitions.table l.table))) (drop l.variant-index l.variants)
    ≡ string_bytes l.initial.out ++ flat_map (variant_line (name_within 8 (g.T.Definitions.table l.table))) l.variants
