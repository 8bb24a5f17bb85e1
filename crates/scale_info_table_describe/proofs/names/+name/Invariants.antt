use Rattle.std.proofs.Common.{◌≡◌, ◌++◌, ◌*◌, ◌+◌, drop, string_bytes}
use Rattle.std.specs.List.{flat_map}
use Rattle.std.specs.Prelude.{codes}
use Rattle.scale_info_table_describe.specs.TypeNames.{name_within, argument, field_on_line, variant_on_line}
use Rattle.scale_info_table_describe.proofs.names.+name.Given as goal

abbrev pub decreases-append_name : goal.decreases-append_name
decreases-append_name g l = 6 * l.left

abbrev pub decreases-append_named : goal.decreases-append_named
decreases-append_named g l = 6 * l.left + 5

abbrev pub decreases-append_definition : goal.decreases-append_definition
decreases-append_definition g l = 6 * l.left + 4

abbrev pub decreases-append_variants : goal.decreases-append_variants
decreases-append_variants g l = 6 * l.left + 3

abbrev pub decreases-append_fields_on_line : goal.decreases-append_fields_on_line
decreases-append_fields_on_line g l = 6 * l.left + 2

abbrev pub decreases-append_arguments : goal.decreases-append_arguments
decreases-append_arguments g l = 6 * l.left + 2

abbrev pub decreases-append_tuple : goal.decreases-append_tuple
decreases-append_tuple g l = 6 * l.left + 2

abbrev pub decreases-append_bits : goal.decreases-append_bits
decreases-append_bits g l = 6 * l.left + 2

abbrev pub decreases-append_map : goal.decreases-append_map
decreases-append_map g l = 6 * l.left + 2

abbrev pub decreases-append_argument : goal.decreases-append_argument
decreases-append_argument g l = 6 * l.left + 1

abbrev pub decreases-append_field : goal.decreases-append_field
decreases-append_field g l = 6 * l.left + 1

abbrev pub invariant-append_arguments-loop-parameter : goal.invariant-append_arguments-loop-parameter
invariant-append_arguments-loop-parameter g l =
    string_bytes l.out ++ flat_map (λ p. codes ", " ++ argument (name_within l.left (g.T.Definitions.table l.table)) p)
    (drop l.parameter-index l.others)
    ≡ string_bytes l.initial.out ++ flat_map (λ p. codes ", " ++ argument (name_within l.left (g.T.Definitions.table l.table)) p) l.others

abbrev pub invariant-append_tuple-loop-member : goal.invariant-append_tuple-loop-member
invariant-append_tuple-loop-member g l =
    string_bytes l.out ++ flat_map (λ m. codes ", " ++ name_within l.left (g.T.Definitions.table l.table) m.id)
    (drop l.member-index l.others)
    ≡ string_bytes l.initial.out ++ flat_map (λ m. codes ", " ++ name_within l.left (g.T.Definitions.table l.table) m.id) l.others

abbrev pub invariant-append_fields_on_line-loop-field : goal.invariant-append_fields_on_line-loop-field
invariant-append_fields_on_line-loop-field g l =
    string_bytes l.out ++ flat_map (λ f. codes ", " ++ field_on_line (name_within l.left (g.T.Definitions.table l.table)) f)
    (drop l.field-index l.others)
    ≡ string_bytes l.initial.out ++ flat_map (λ f. codes ", " ++ field_on_line (name_within l.left
    (g.T.Definitions.table l.table)) f) l.others

abbrev pub invariant-append_variants-loop-variant : goal.invariant-append_variants-loop-variant
invariant-append_variants-loop-variant g l =
    string_bytes l.out ++ flat_map (variant_on_line (name_within l.left (g.T.Definitions.table l.table))) (drop l.variant-index l.variants)
    ≡ string_bytes l.initial.out ++ flat_map (variant_on_line (name_within l.left (g.T.Definitions.table l.table))) l.variants
