use Rattle.std.proofs.Common.{take}
use Rattle.scale_info_references.specs.Gathered.{AddsReferences}
use Rattle.scale_info_references.proofs.references.gather_types.Given as goal

abbrev pub invariant-loop-ty : goal.invariant-loop-ty
invariant-loop-ty g l = AddsReferences l.fn.found.items (take l.ty-index l.types) l.found.items
