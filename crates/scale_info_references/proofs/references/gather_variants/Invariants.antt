use Rattle.std.proofs.Common.{take}
use Rattle.scale_info_types.specs.References.{field_references}
use Rattle.std.specs.List.{flat_map}
use Rattle.scale_info_references.specs.Gathered.{AddsReferences}
use Rattle.scale_info_references.proofs.references.gather_variants.Given as goal

abbrev pub invariant-loop-variant : goal.invariant-loop-variant
invariant-loop-variant g l =
    AddsReferences l.fn.found.items (flat_map (λ v. field_references v.fields)
    (take l.variant-index l.variants)) l.found.items
