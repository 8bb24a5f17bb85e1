use Rattle.std.proofs.Common.{List, ap}
use Rattle.std.specs.List.{flat_map}
use Rattle.scale_info_types.specs.Portable.{Variant}
use Rattle.scale_info_types.specs.References.{definition_references, field_references}
use Rattle.scale_info_table.proofs.Below.{definition_below, fields_below, variants_below}
use Rattle.scale_info_table.proofs.portable.closed.has_definition_below.Goals as goal

pub returns-in-Composite : goal.returns-in-Composite
returns-in-Composite c =
    definition_below field_references (fields_below c.args.count) c.args.def.now _ _ _
    (ap definition_references c.in-Composite.is) (cc) c.has_fields_below.ensures

pub returns-in-Variant : goal.returns-in-Variant
returns-in-Variant c =
    definition_below (λ (vs : List Variant). flat_map (λ v. field_references v.fields) vs)
    (variants_below c.args.count) c.args.def.now c.in-Variant.def.variants _ _ (ap definition_references c.in-Variant.is) (cc)
    c.has_variants_below.ensures
