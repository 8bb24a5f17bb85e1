use Rattle.std.proofs.Common.{take}
use Rattle.scale_info_types.specs.References.{field_references}
use Rattle.scale_info_references.specs.Gathered.{AddsReferences}
use Rattle.scale_info_references.proofs.references.gather_fields.Given as goal

abbrev pub invariant-loop-field : goal.invariant-loop-field
invariant-loop-field g l =
    AddsReferences l.fn.found.items (field_references (take l.field-index l.fields)) l.found.items
